-- The room of a price book: what a published list took is given back when its sheet is withdrawn.
use Rattle.std.proofs.Common.{◌≡◌, ℕ, ◌-◌, ◌<◌, List, [], ◌∷◌, ◌++◌, length, get_or, Option, Some, max, refl, sym, ap, ◌∙◌, arith}
use Rattle.std.specs.Prelude.{slice_get}
use Rattle.std.specs.Option.{option_map_or}
use Rattle.std.proofs.lemmas.List.{length-append}
use Rattle.std.proofs.lemmas.Option.{slice_get_read}
use Rattle.std.proofs.Math.Seq.{get_or-append_seam}
use Rattle.forward_price.specs.declared.price_sheet.Sheet.{Sheet}
use Rattle.forward_price.specs.PriceTables.{Book, Table, last_length, sheet_published, with_published, without_last, with_sheets, published_book, withdrawn_book}
use Rattle.forward_price.proofs.KeptFacts.{published_back}

-- the last sheet is the one that was appended
last-place : (sheets : List Sheet) (sheet : Sheet) → length (sheets ++ sheet ∷ []) - 1 ≡ length sheets
last-place sheets sheet = omega (arith, length-append sheets (sheet ∷ []))

last-sheet : (sheets : List Sheet) (sheet : Sheet) → slice_get (sheets ++ sheet ∷ []) (length (sheets ++ sheet ∷ []) - 1) ≡ Some sheet
last-sheet sheets sheet =
    let all : List Sheet = sheets ++ sheet ∷ [] in
    let place = last-place sheets sheet in
    let within : length all - 1 < length all = omega (arith, length-append sheets (sheet ∷ [])) in
    slice_get_read all (length all) (length all - 1) sheet refl within
    (sym (ap (λ i. get_or all i sheet) place ∙ get_or-append_seam sheets sheet [] sheet))

pub last_length-append : (sheets : List Sheet) (sheet : Sheet) → last_length (sheets ++ sheet ∷ []) ≡ length sheet.prices
last_length-append sheets sheet =
    ap (λ (found : Option Sheet). option_map_or (λ s. length s.prices) found 0) (last-sheet sheets sheet)

abbrev book_of : Table → ℕ → ℕ → Book
book_of t spare list = record { table = t; spare = spare; list = list }

-- a sheet that is published and withdrawn leaves the table as it was
pub table_back : (t : Table) (calendar moment : ℕ) (prices : List (ℕ × ℕ)) → without_last (with_published t calendar moment prices) ≡ t
table_back t calendar moment prices = ap (with_sheets t) (published_back t.sheets (sheet_published t calendar moment prices))

-- and the book but for the room of the next list, which is then that of its own list
pub room_back : (book : Book) (calendar moment : ℕ) (prices : List (ℕ × ℕ)) → withdrawn_book (published_book book calendar moment prices) ≡ record book { list = length prices }
room_back book calendar moment prices =
    let sheet : Sheet = sheet_published book.table calendar moment prices in
    let list : max 0 (last_length (book.table.sheets ++ sheet ∷ [])) ≡ length prices = omega (arith, last_length-append book.table.sheets sheet) in
    ap (λ t. book_of t book.spare (max 0 (last_length (book.table.sheets ++ sheet ∷ [])))) (table_back book.table calendar moment prices)
    ∙ ap (λ n. book_of book.table book.spare n) list

-- so the book is as it was where its list takes all of the room
pub room_whole : (book : Book) (calendar moment : ℕ) (prices : List (ℕ × ℕ)) → book.list ≡ length prices → withdrawn_book (published_book book calendar moment prices) ≡ book
room_whole book calendar moment prices takes =
    room_back book calendar moment prices ∙ ap (λ n. book_of book.table book.spare n) (sym takes)
