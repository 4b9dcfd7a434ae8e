-- The members of an object as they stand ask what they ask in the order of their names.
use Rattle.std.proofs.Common.{◌≡◌, ℕ, Bool, true, false, ◌&&◌, ◌||◌, cond, List, [], ◌∷◌, ◌++◌, map, Option, None, Some, Ordering, Less, Equal, Greater, nat_cmp, is_eq, bytes_eq, refl, sym, ap, subst, ◌∙◌}
use Rattle.std.specs.Cmp.Lexicographic.{slice_cmp}
use Rattle.std.specs.List.{fold, list_all, list_any}
use Rattle.std.specs.Option.{unwrap_or}
use Rattle.std.specs.Ordering.{match_ordering, ordering_reverse}
use Rattle.std.specs.Prelude.{option_and_then, if◌then◌else◌, codes, Err}
use Rattle.std.proofs.lemmas.Cmp.{nat_list_cmp_total}
use Rattle.std.proofs.lemmas.List.Folds.{list_all-append}
use Rattle.std.proofs.lemmas.List.Sums.{fold-append}
use Rattle.std.proofs.lemmas.Map.Text.{is_eq-slice_cmp}
use Rattle.std.proofs.lemmas.Slice.Eq.{bytes_eq-Decides}
use Rattle.serde_json.specs.Data.{Data, Members, no_members, member, put}
use Rattle.agent_events.specs.Items.{asked_by}
use Rattle.agent_events.specs.JsonForms.{Member, are_named, asked_by_members, asked_by_names, entry_by_verb, entry_members, entry_names, field_names, is_posted, member_named, no_text, order_names, text_named, texts_named}
use Rattle.agent_events.specs.OrderForms.{order_count}
use Rattle.agent_events.specs.VerbForms.{Asked}
use Rattle.agent_http.specs.Bodies.{members_in, text_of}

-- a name stands before all of these members
abbrev Above : List ℕ → Members → Type 0
Above k no_members = Unit {0}
Above k (member l e ms) = (slice_cmp nat_cmp k l ≡ Less) × Above k ms

abbrev IsRising : Members → Type 0
IsRising no_members = Unit {0}
IsRising (member l e ms) = Above l ms × IsRising ms

above-less : (k l : List ℕ) (ms : Members) → slice_cmp nat_cmp k l ≡ Less → Above l ms → Above k ms
above-less k l no_members less h = tt
above-less k l (member m e ms) less h = (nat_list_cmp_total.trans k l m less h.0, above-less k l ms less h.1)

above-put-at : (o : Ordering) (l k m : List ℕ) (d e : Data) (ms : Members) → slice_cmp nat_cmp l k ≡ Less → Above l (member m e ms)
    → Above l (put k d ms) → Above l (match_ordering o (member k d (member m e ms)) (member m d ms) (member m e (put k d ms)))
above-put-at Less l k m d e ms less h later = (less, h)
above-put-at Equal l k m d e ms less h later = h
above-put-at Greater l k m d e ms less h later = (h.0, later)

above-put : (l k : List ℕ) (d : Data) (ms : Members) → slice_cmp nat_cmp l k ≡ Less → Above l ms → Above l (put k d ms)
above-put l k d no_members less h = (less, tt)
above-put l k d (member m e ms) less h =
    above-put-at (slice_cmp nat_cmp k m) l k m d e ms less h (above-put l k d ms less h.1)

turned : (k m : List ℕ) → slice_cmp nat_cmp k m ≡ Greater → slice_cmp nat_cmp m k ≡ Less
turned k m e = nat_list_cmp_total.antisymm m k ∙ ap ordering_reverse e

rising-put-at : (o : Ordering) (k m : List ℕ) (d e : Data) (ms : Members) → slice_cmp nat_cmp k m ≡ o → IsRising (member m e ms)
    → IsRising (put k d ms) → IsRising (match_ordering o (member k d (member m e ms)) (member m d ms) (member m e (put k d ms)))
rising-put-at Less k m d e ms is h later = ((is, above-less k m ms is h.0), h)
rising-put-at Equal k m d e ms is h later = h
rising-put-at Greater k m d e ms is h later = (above-put m k d ms (turned k m is) h.0, later)

rising-put : (k : List ℕ) (d : Data) (ms : Members) → IsRising ms → IsRising (put k d ms)
rising-put k d no_members h = (tt, tt)
rising-put k d (member m e ms) h = rising-put-at (slice_cmp nat_cmp k m) k m d e ms refl h (rising-put k d ms h.1)

abbrev one : List ℕ → Data → Member
one k d = record { name = k; text = text_of d }

-- the last member of a name, or what was found before
abbrev last : List ℕ → Option Member → List Member → Option Member
last name found members = fold (λ found member. if bytes_eq member.name name then Some member else found) found members

absent : (name : List ℕ) (ms : Members) (found : Option Member) → Above name ms → last name found (members_in ms) ≡ found
absent name no_members found h = refl
absent name (member l e ms) found h =
    let no : bytes_eq l name ≡ false =
    sym (is_eq-slice_cmp l name) ∙ ap is_eq (nat_list_cmp_total.antisymm l name ∙ ap ordering_reverse h.0) in
    ap (λ b. last name (cond b (Some (one l e)) found) (members_in ms)) no ∙ absent name ms found h.1

less-by : (b : Bool) (k name : List ℕ) (d : Data) (ms : Members) (found : Option Member) → bytes_eq k name ≡ b → Above k ms
    → last name (cond b (Some (one k d)) found) (members_in ms) ≡ cond b (Some (one k d)) (last name found (members_in ms))
less-by true k name d ms found e h = absent name ms (Some (one k d)) (subst (λ x. Above x ms) ((bytes_eq-Decides k name).0 e) h)
less-by false k name d ms found e h = refl

equal-by : (b : Bool) (m name : List ℕ) (d e : Data) (ms : Members) (found : Option Member) → bytes_eq m name ≡ b → Above m ms
    → last name (cond b (Some (one m d)) found) (members_in ms) ≡ cond b (Some (one m d)) (last name (cond b (Some (one m e)) found) (members_in ms))
equal-by true m name d e ms found is h = absent name ms (Some (one m d)) (subst (λ x. Above x ms) ((bytes_eq-Decides m name).0 is) h)
equal-by false m name d e ms found is h = refl

last-put-at : (o : Ordering) (k m name : List ℕ) (d e : Data) (ms : Members) (found : Option Member) → slice_cmp nat_cmp k m ≡ o → Above m ms
    → ((before : Option Member) → last name before (members_in (put k d ms)) ≡ cond (bytes_eq k name) (Some (one k d)) (last name before (members_in ms)))
    → last name found (members_in (match_ordering o (member k d (member m e ms)) (member m d ms) (member m e (put k d ms))))
    ≡ cond (bytes_eq k name) (Some (one k d)) (last name found (members_in (member m e ms)))
last-put-at Less k m name d e ms found is h later =
    less-by (bytes_eq k name) k name d (member m e ms) found refl (is, above-less k m ms is h)
last-put-at Equal k m name d e ms found is h later =
    let same : m ≡ k = sym ((bytes_eq-Decides k m).0 (sym (is_eq-slice_cmp k m) ∙ ap is_eq is)) in
    subst (λ x. last name (cond (bytes_eq m name) (Some (one m d)) found) (members_in ms)
    ≡ cond (bytes_eq x name) (Some (one x d)) (last name (cond (bytes_eq m name) (Some (one m e)) found) (members_in ms))) same
    (equal-by (bytes_eq m name) m name d e ms found refl h)
last-put-at Greater k m name d e ms found is h later = later (cond (bytes_eq m name) (Some (one m e)) found)

-- what was put at a name is the last of it, and the others stay
last-put : (k name : List ℕ) (d : Data) (ms : Members) (found : Option Member) → IsRising ms
    → last name found (members_in (put k d ms)) ≡ cond (bytes_eq k name) (Some (one k d)) (last name found (members_in ms))
last-put k name d no_members found h = refl
last-put k name d (member m e ms) found h =
    last-put-at (slice_cmp nat_cmp k m) k m name d e ms found refl h.0 (λ before. last-put k name d ms before h.1)

twice : (a b : Bool) → (a && b) ≡ (a && (a && b))
twice true b = refl
twice false b = refl

swapped : (a b c : Bool) → (a && (b && c)) ≡ (b && (a && c))
swapped true true c = refl
swapped true false c = refl
swapped false true c = refl
swapped false false c = refl

turned-and : (a b : Bool) → (a && b) ≡ (b && (a && true))
turned-and true true = refl
turned-and true false = refl
turned-and false true = refl
turned-and false false = refl

all-put-at : (g : List ℕ → Bool) (o : Ordering) (k m : List ℕ) (d e : Data) (ms : Members) → slice_cmp nat_cmp k m ≡ o
    → list_all (λ (x : Member). g x.name) (members_in (put k d ms)) ≡ (g k && list_all (λ (x : Member). g x.name) (members_in ms))
    → list_all (λ (x : Member). g x.name) (members_in (match_ordering o (member k d (member m e ms)) (member m d ms) (member m e (put k d ms))))
    ≡ (g k && (g m && list_all (λ (x : Member). g x.name) (members_in ms)))
all-put-at g Less k m d e ms is later = refl
all-put-at g Equal k m d e ms is later =
    let same : m ≡ k = sym ((bytes_eq-Decides k m).0 (sym (is_eq-slice_cmp k m) ∙ ap is_eq is)) in
    twice (g m) (list_all (λ (x : Member). g x.name) (members_in ms))
    ∙ ap (λ y. g y && (g m && list_all (λ (x : Member). g x.name) (members_in ms))) same
all-put-at g Greater k m d e ms is later =
    ap (λ b. g m && b) later ∙ swapped (g m) (g k) (list_all (λ (x : Member). g x.name) (members_in ms))

all-put : (g : List ℕ → Bool) (k : List ℕ) (d : Data) (ms : Members)
    → list_all (λ (x : Member). g x.name) (members_in (put k d ms)) ≡ (g k && list_all (λ (x : Member). g x.name) (members_in ms))
all-put g k d no_members = refl
all-put g k d (member m e ms) = all-put-at g (slice_cmp nat_cmp k m) k m d e ms refl (all-put g k d ms)

-- these members are an object's, as they stand
pub record Alike (object : Members) (members : List Member) : Type 0 where
  pub rising : IsRising object
  pub named : (name : List ℕ) → member_named (members_in object) name ≡ member_named members name
  pub all : (names : List (List ℕ)) → are_named names (members_in object) ≡ are_named names members

pub alike-none : Alike no_members []
alike-none = record { rising = tt; named = λ name. refl; all = λ names. refl }

pub alike-more : (object : Members) (members : List Member) (k : List ℕ) (d : Data) (x : Member) → x ≡ one k d → Alike object members
    → Alike (put k d object) (members ++ x ∷ [])
alike-more object members k d x is h =
    let more : Alike (put k d object) (members ++ one k d ∷ []) = record {
      rising = rising-put k d object h.rising;
      named = λ name. last-put k name d object None h.rising
          ∙ ap (λ found. cond (bytes_eq k name) (Some (one k d)) found) (h.named name)
          ∙ sym (fold-append (λ found member. if bytes_eq member.name name then Some member else found) None members (one k d ∷ []));
      all = λ names. all-put (λ y. list_any (bytes_eq y) names) k d object
          ∙ ap (λ b. list_any (bytes_eq k) names && b) (h.all names)
          ∙ turned-and (list_any (bytes_eq k) names) (are_named names members)
          ∙ sym (list_all-append (λ (y : Member). list_any (bytes_eq y.name) names) members (one k d ∷ []));
    } in
    subst (λ y. Alike (put k d object) (members ++ y ∷ [])) (sym is) more

same-map : (f g : List ℕ → List ℕ) → ((x : List ℕ) → f x ≡ g x) → (xs : List (List ℕ)) → map f xs ≡ map g xs
same-map f g same [] = refl
same-map f g same (x ∷ xs) = ap (λ y. y ∷ map f xs) (same x) ∙ ap (λ ys. g x ∷ ys) (same-map f g same xs)

text-alike : (object : Members) (members : List Member) → Alike object members → (name : List ℕ)
    → text_named members name ≡ text_named (members_in object) name
text-alike object members h name =
    ap (λ found. unwrap_or (option_and_then (λ (member : Member). member.text) found) no_text) (sym (h.named name))

texts-alike : (object : Members) (members : List Member) → Alike object members → (names : List (List ℕ))
    → texts_named members names ≡ texts_named (members_in object) names
texts-alike object members h names =
    same-map (text_named members) (text_named (members_in object)) (text-alike object members h) names

names-alike : (object : Members) (members : List Member) → Alike object members → (verb : List ℕ) (names : List (List ℕ))
    → asked_by_names verb names members ≡ asked_by_names verb names (members_in object)
names-alike object members h verb names =
    ap (λ b. cond b (asked_by verb (texts_named members names)) (Err 0)) (sym (h.all names))
    ∙ ap (λ texts. cond (are_named names (members_in object)) (asked_by verb texts) (Err 0)) (texts-alike object members h names)

entry-alike : (object : Members) (members : List Member) → Alike object members → (count : Option ℕ) (verb order_verb : List ℕ)
    → entry_by_verb count verb order_verb members ≡ entry_by_verb count verb order_verb (members_in object)
entry-alike object members h None verb order_verb = ap (asked_by verb) (texts-alike object members h entry_names)
entry-alike object members h (Some count) verb order_verb = names-alike object members h verb (entry_names ++ order_names order_verb)

chosen : (a b : Bool) (x y u v w : Asked) → x ≡ u → y ≡ v → cond a x (cond b y w) ≡ cond a u (cond b v w)
chosen true b x y u v w first second = first
chosen false true x y u v w first second = second
chosen false false x y u v w first second = refl

-- they ask the same of every verb
pub asked-alike : (object : Members) (members : List Member) → Alike object members → (verb : List ℕ)
    → asked_by_members verb members ≡ asked_by_members verb (members_in object)
asked-alike object members h verb =
    chosen (bytes_eq verb (codes "enter") || bytes_eq verb (codes "replace")) (is_posted verb)
    (entry_members verb (text_named members (codes "verb")) members) (asked_by_names verb (field_names verb) members)
    (entry_members verb (text_named (members_in object) (codes "verb")) (members_in object))
    (asked_by_names verb (field_names verb) (members_in object)) (Err 0)
    (ap (λ order_verb. entry_members verb order_verb members) (text-alike object members h (codes "verb"))
    ∙ entry-alike object members h (order_count (text_named (members_in object) (codes "verb"))) verb (text_named (members_in object) (codes "verb")))
    (names-alike object members h verb (field_names verb))
