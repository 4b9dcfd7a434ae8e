-- The proof of the law `corrections_of_lawful_journals_fix_one_price`.
use Rattle.register_laws.proofs.FixesOnePrice.{fixes-it-alone, has-sheet}
use Rattle.register_laws.proofs.NothingBefore.{last-brought}
use Rattle.register_laws.proofs.journal_laws.corrections_of_lawful_journals_fix_one_price.Goals as goal

pub returns : goal.returns
returns c journal event all form is =
    let sheet = has-sheet journal event all form is in (
      sheet.0,
      record { listed = sheet.1; table = fixes-it-alone journal form sheet.0 (last-brought journal event all).0 sheet.1 },
    )
