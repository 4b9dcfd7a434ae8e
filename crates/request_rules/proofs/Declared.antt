-- A dividend of a calendar's classes, found class by class: the dividends of a moment whose class is the calendar's are those
-- of the calendar's classes at the moment.
use Rattle.std.proofs.Common.{Bool, List, None, Option, Some, [], ap, false, find, arith, option_map, refl, sym, true, ℕ, ◌&&◌, ◌==◌, ◌||◌, ◌∙◌, ◌∷◌, ◌≡◌}
use Rattle.std.specs.List.{list_any}
use Rattle.std.specs.Option.{option_map_or}
use Rattle.agent_events.specs.declared.request.ClassForm.{ClassForm}
use Rattle.agent_events.specs.declared.request.DividendForm.{DividendForm}
use Rattle.request_rules.proofs.LookUps.{one_of}
use Rattle.request_rules.specs.VerbRules.{class_declares}
use Rattle.register_laws.specs.Identities.{AtMostOne, is_class}
use Rattle.register_machine.specs.pricing.CorrectedBook.{Book}
use Rattle.register_machine.specs.pricing.DividendRates.{declares}
use Rattle.register_machine.specs.rules.Standing.{is_declared_in}

pub same-any : {X : Type 0} (f g : X → Bool) (xs : List X) → ((x : X) → f x ≡ g x) → list_any f xs ≡ list_any g xs
same-any f g [] same = refl
same-any f g (x ∷ xs) same = ap (λ b. b || list_any f xs) (same x) ∙ ap (λ b. g x || b) (same-any f g xs same)

-- a condition before each of a list
and-any : {X : Type 0} (b : Bool) (f : X → Bool) (xs : List X) → (b && list_any f xs) ≡ list_any (λ (x : X). b && f x) xs
and-any true f [] = refl
and-any false f [] = refl
and-any true f (x ∷ xs) = ap (λ c. f x || c) (and-any true f xs)
and-any false f (x ∷ xs) = and-any false f xs

or-any : {X : Type 0} (f g : X → Bool) (xs : List X) → list_any (λ (x : X). f x || g x) xs ≡ (list_any f xs || list_any g xs)
or-any f g [] = refl
or-any {X = X} f g (x ∷ xs) = ap (λ c. f x || g x || c) (or-any f g xs) ∙ turned (f x) (g x) (list_any f xs) (list_any g xs)
  where
    turned : (a b c d : Bool) → (a || b || (c || d)) ≡ (a || c || (b || d))
    turned true b c d = refl
    turned false true true d = refl
    turned false true false d = refl
    turned false false c d = refl

none-any : {Y : Type 0} (ys : List Y) → false ≡ list_any (λ (y : Y). false) ys
none-any [] = refl
none-any (y ∷ ys) = none-any ys

-- whether one of a list goes with one of another
swapped : {X Y : Type 0} (p : X → Y → Bool) (xs : List X) (ys : List Y) → list_any (λ (x : X). list_any (p x) ys) xs ≡ list_any (λ (y : Y). list_any (λ (x : X). p x y) xs) ys
swapped p [] ys = none-any ys
swapped {X = X} {Y = Y} p (x ∷ xs) ys =
    ap (λ c. list_any (p x) ys || c) (swapped p xs ys)
    ∙ sym (or-any (p x) (λ (y : Y). list_any (λ (z : X). p z y) xs) ys)

turned-eq : (a b : ℕ) → (a == b) ≡ (b == a)
turned-eq a b = grind arith

mapped-or : {X Y : Type 0} (f : Y → Bool) (g : X → Y) (found : Option X) → option_map_or f (option_map g found) false ≡ option_map_or (λ (x : X). f (g x)) found false
mapped-or f g None = refl
mapped-or f g (Some x) = refl

turned-and : (a b c d : Bool) → b ≡ d → (a && (b && c)) ≡ (c && (d && a))
turned-and true true true d e = ap (λ x. x && true) e
turned-and true true false d e = refl
turned-and true false true d e = ap (λ x. x && true) e
turned-and true false false d e = refl
turned-and false true true d e = sym (late d)
  where
    late : (x : Bool) → (x && false) ≡ false
    late true = refl
    late false = refl
turned-and false true false d e = refl
turned-and false false true d e = sym (late d)
  where
    late : (x : Bool) → (x && false) ≡ false
    late true = refl
    late false = refl
turned-and false false false d e = refl

-- a dividend of the moment and a class of the calendar that it is of
abbrev pub goes_with : ℕ → ℕ → DividendForm → ClassForm → Bool
goes_with calendar moment form class = form.moment == moment && (class.class == form.class && class.calendar == calendar)

by-form : (book : Book) (calendar moment : ℕ) (form : DividendForm) → ((n : ℕ) → AtMostOne (is_class n) book.classes) → is_declared_in book calendar moment form ≡ list_any (goes_with calendar moment form) book.classes
by-form book calendar moment form once =
    ap (λ b. form.moment == moment && b)
    (mapped-or (λ (own : ℕ). own == calendar) (λ (c : ClassForm). c.calendar) (find (is_class form.class) book.classes)
    ∙ sym (one_of (λ (c : ClassForm). c.class) (λ (c : ClassForm). c.calendar == calendar) form.class book.classes (once form.class)))
    ∙ and-any (form.moment == moment) (λ (c : ClassForm). c.class == form.class && c.calendar == calendar) book.classes

by-class : (declared : List DividendForm) (calendar moment : ℕ) (class : ClassForm) → list_any (λ (form : DividendForm). goes_with calendar moment form class) declared ≡ class_declares declared calendar moment class
by-class declared calendar moment class =
    same-any (λ (form : DividendForm). goes_with calendar moment form class) (λ (form : DividendForm). class.calendar == calendar && declares class.class moment form) declared
    (λ form. turned-and (form.moment == moment) (class.class == form.class) (class.calendar == calendar) (form.class == class.class) (turned-eq class.class form.class))
    ∙ sym (and-any (class.calendar == calendar) (declares class.class moment) declared)

pub declared_by_class : (book : Book) (calendar moment : ℕ) → ((n : ℕ) → AtMostOne (is_class n) book.classes) → list_any (is_declared_in book calendar moment) book.rates.declared ≡ list_any (class_declares book.rates.declared calendar moment) book.classes
declared_by_class book calendar moment once =
    same-any (is_declared_in book calendar moment) (λ (form : DividendForm). list_any (goes_with calendar moment form) book.classes) book.rates.declared (λ form. by-form book calendar moment form once)
    ∙ (swapped (goes_with calendar moment) book.rates.declared book.classes
    ∙ same-any (λ (class : ClassForm). list_any (λ (form : DividendForm). goes_with calendar moment form class) book.rates.declared) (class_declares book.rates.declared calendar moment) book.classes (by-class book.rates.declared calendar moment))
