-- What one event more does to a household's view.
use Rattle.std.proofs.Common.{Bool, List, [], ap, append-nil, cond, false, filter, option_to_list, refl, sym, true, ℕ, ◌&&◌, ◌++◌, ◌==◌, ◌||◌, ◌∙◌, ◌∷◌, ◌≡◌}
use Rattle.std.proofs.lemmas.Bool.{eq-eqb, eqb-true, or_parts, true≢false}
use Rattle.std.proofs.lemmas.List.Elements.{filter-append}
use Rattle.std.proofs.lemmas.List.Folds.{list_any-append}
use Rattle.std.specs.List.{list_any}
use Rattle.std.specs.Option.{option_map_or}
use Rattle.agent_events.specs.declared.event.EventKind.{EventKind}
use Rattle.agent_events.specs.declared.request.AccountForm.{AccountForm}
use Rattle.register_laws.proofs.Tests.{not-true}
use Rattle.register_laws.specs.OneEventMore.{account_named, is_about, opens_untouched}
use Rattle.register_machine.specs.journal.Journals.{Journal}
use Rattle.register_machine.specs.journal.Kinds.{account_in, accounts_of}
use Rattle.register_machine.specs.journal.Views.{belongs_to, is_public, is_seen_by, view}
use Rattle.register_machine.specs.rules.Callers.{owns}

pub turned : (a b : ℕ) → (a == b) ≡ false → (b == a) ≡ false
turned a b e = by_test (b == a) refl
  where
    by_test : (same : Bool) → (b == a) ≡ same → same ≡ false
    by_test false _ = refl
    by_test true is = absurd (true≢false (sym (eq-eqb a b (sym (eqb-true b a is))) ∙ e))

-- an account more owns nothing under another number
owns-on : (accounts : List AccountForm) (form : AccountForm) (household number : ℕ) → (number == form.account) ≡ false → owns (accounts ++ form ∷ []) household number ≡ owns accounts household number
owns-on accounts form household number other =
    list_any-append (λ (account : AccountForm). account.account == number && account.household == household) accounts (form ∷ [])
    ∙ (ap (λ b. owns accounts household number || ((b && form.household == household) || false)) (turned number form.account other)
    ∙ no-more (owns accounts household number))
  where
    no-more : (b : Bool) → (b || false) ≡ b
    no-more true = refl
    no-more false = refl

belongs-on : (accounts : List AccountForm) (form : AccountForm) (household : ℕ) (kind : EventKind) → option_map_or (λ own. own == form.account) (account_named kind) false ≡ false → belongs_to (accounts ++ form ∷ []) household kind ≡ belongs_to accounts household kind
belongs-on accounts form household (EventKind.Order placed) other = owns-on accounts form household placed.order.account other
belongs-on accounts form household (EventKind.Cancel cancel) other = owns-on accounts form household cancel.account other
belongs-on accounts form household (EventKind.Enter entry) other = owns-on accounts form household entry.order.account other
belongs-on accounts form household (EventKind.Replace entry) other = owns-on accounts form household entry.order.account other
belongs-on accounts form household (EventKind.Void void) other = owns-on accounts form household void.account other
belongs-on accounts form household _ other = refl

seen-on : (accounts : List AccountForm) (form : AccountForm) (household : ℕ) (events : Journal) → list_any (is_about form.account) events ≡ false → filter (is_seen_by (accounts ++ form ∷ []) household) events ≡ filter (is_seen_by accounts household) events
seen-on accounts form household [] other = refl
seen-on accounts form household (event ∷ events) other =
    let both = or_parts (is_about form.account event) (list_any (is_about form.account) events) other in
    ap (λ belongs. cond (is_public event.kind || belongs) (event ∷ filter (is_seen_by (accounts ++ form ∷ []) household) events) (filter (is_seen_by (accounts ++ form ∷ []) household) events)) (belongs-on accounts form household event.kind both.0)
    ∙ ap (λ rest. cond (is_seen_by accounts household event) (event ∷ rest) rest) (seen-on accounts form household events both.1)

-- by the kind of the event
pub view-by : (household : ℕ) (journal : Journal) (moment : ℕ) (kind : EventKind) → opens_untouched journal kind ≡ true → filter (is_seen_by (accounts_of journal ++ option_to_list (account_in kind)) household) (journal ++ record { moment = moment; kind = kind } ∷ []) ≡ view household journal ++ cond (is_seen_by (accounts_of journal) household (record { moment = moment; kind = kind })) (record { moment = moment; kind = kind } ∷ []) []
view-by household journal moment (EventKind.Account form) untouched =
    filter-append (is_seen_by (accounts_of journal ++ form ∷ []) household) journal (record { moment = moment; kind = EventKind.Account form } ∷ [])
    ∙ ap (λ before. before ++ cond (form.household == household) (record { moment = moment; kind = EventKind.Account form } ∷ []) []) (seen-on (accounts_of journal) form household journal (not-true (list_any (is_about form.account) journal) untouched))
view-by household journal moment kind untouched =
    ap (λ accounts. filter (is_seen_by accounts household) (journal ++ record { moment = moment; kind = kind } ∷ [])) (append-nil (accounts_of journal))
    ∙ filter-append (is_seen_by (accounts_of journal) household) journal (record { moment = moment; kind = kind } ∷ [])
