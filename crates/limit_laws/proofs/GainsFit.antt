-- The gains of a correction come to no more than a post may have.
use Rattle.std.proofs.Common.{List, None, Option, Some, [], arith, cond, count_by, false, nat_abs, neg_ℤ, negsuc, pos, refl, suc, sum_by, true, zero, ℕ, ℤ, ◌*ℤ◌, ◌*◌, ◌+◌, ◌-ℤ◌, ◌==◌, ◌^◌, ◌&&◌, ◌∷◌, ◌≡◌, ◌≤◌}
use Rattle.std.proofs.Math.Nat.{mul-le-mul_left}
use Rattle.std.proofs.lemmas.Int.{ints, unsigned_abs-mul}
use Rattle.std.proofs.lemmas.List.Sums.{sum_by-cons, sum_by-le-sum_by}
use Rattle.std.specs.List.{cons_option}
use Rattle.std.specs.Option.{option_map_or}
use Rattle.std.specs.Prelude.{filter_map}
use Rattle.agent_events.specs.declared.order.Party.{Party}
use Rattle.agent_events.specs.declared.reply_lists.ClassGain.{ClassGain}
use Rattle.forward_price.specs.declared.price_sheet.Sheet.{Sheet}
use Rattle.gain_loss_book.specs.Flows.{fall, rise}
use Rattle.gain_loss_book.specs.Posted.{size_of_gains}
use Rattle.limit_laws.proofs.ChangesFit.{four-within, mils-brought, of_four}
use Rattle.limit_laws.specs.Posts.{HasMovedLittle}
use Rattle.money_units.proofs.RoundingFacts.{half-le}
use Rattle.money_units.specs.Rounding.{half, signed_half}
use Rattle.register_laws.proofs.Sums.{sum-plus}
use Rattle.register_laws.specs.ReplayKeeps.{most_nav}
use Rattle.register_machine.specs.corrections.Cash.{balance, cents_paid, cents_received, movements_of, outstanding, same_party}
use Rattle.register_machine.specs.corrections.Gains.{gain_by, gain_of, gain_unless_same, gains_between, is_nothing, latest_nav}
use Rattle.register_machine.specs.replay.Trades.{Day}

-- ---- the gain of one class

size-is : (z : ℤ) → rise z + fall z ≡ nat_abs z
size-is (pos n) = omega arith
size-is (negsuc n) = omega arith

abs-neg : (n : ℕ) → nat_abs (neg_ℤ (pos n)) ≡ n
abs-neg zero = refl
abs-neg (suc n) = refl

half-abs : (z : ℤ) → nat_abs (signed_half z 1000) ≡ half (nat_abs z) 1000
half-abs (pos n) = refl
half-abs (negsuc n) = abs-neg (half (suc n) 1000)

difference-small : (a b : ℤ) → nat_abs (a -ℤ b) ≤ nat_abs a + nat_abs b
difference-small a b = grind (arith, ints)

-- the value of shares at a price in range
value-small : (mils : ℤ) (nav : ℕ) → nav ≤ most_nav → nat_abs (signed_half (mils *ℤ pos nav) 1000) ≤ 10000 * nat_abs mils
value-small mils nav low =
    let product : nat_abs (mils *ℤ pos nav) ≡ nat_abs mils * nav = unsigned_abs-mul mils (pos nav) in
    let most : nat_abs mils * nav ≤ nat_abs mils * most_nav = mul-le-mul_left (nat_abs mils) low in
    let value = half-le (nat_abs (mils *ℤ pos nav)) 1000 (10000 * nat_abs mils) (omega arith) (omega (arith, product, most)) in
    omega (arith, half-abs (mils *ℤ pos nav), value)

gain-small : (cash mils : ℤ) (nav : ℕ) → nav ≤ most_nav → rise (gain_by cash mils nav) + fall (gain_by cash mils nav) ≤ nat_abs cash + 10000 * nat_abs mils
gain-small cash mils nav low =
    omega (arith, size-is (gain_by cash mils nav), difference-small cash (signed_half (mils *ℤ pos nav) 1000), value-small mils nav low)

between-four : (received paid received_before paid_before : ℕ) → nat_abs ((pos received -ℤ pos paid) -ℤ (pos received_before -ℤ pos paid_before)) ≤ received + (paid + (received_before + paid_before))
between-four received paid received_before paid_before = grind (arith, ints)

between-two : (after before : ℕ) → nat_abs (pos after -ℤ pos before) ≤ after + before
between-two after before = grind (arith, ints)

-- ---- the gains of all

abbrev cash_of_class : Day → Day → ℕ → ℕ
cash_of_class before after class = of_four (movements_of before.trades) (movements_of after.trades) (Party.Class class)

abbrev mils_of_class : Day → Day → ℕ → ℕ
mils_of_class before after class = outstanding after.register class + outstanding before.register class

abbrev size_found : Option ClassGain → ℕ
size_found found = option_map_or (λ (gain : ClassGain). rise gain.cents + fall gain.cents) found 0

found-small : (class : ℕ) (cash mils : ℤ) (nav : ℕ) → nav ≤ most_nav → size_found (gain_unless_same class cash mils nav) ≤ nat_abs cash + 10000 * nat_abs mils
found-small class cash mils nav low =
    elim (is_nothing cash && is_nothing mils) as (λ b. size_found (cond b None (Some (record { class = class; cents = gain_by cash mils nav }))) ≤ nat_abs cash + 10000 * nat_abs mils) [
      | true ↦ omega arith
      | false ↦ gain-small cash mils nav low
    ]

class-small : (before after : Day) (sheets : List Sheet) (class : ℕ) → latest_nav sheets class ≤ most_nav → size_found (gain_of before after (movements_of before.trades) (movements_of after.trades) sheets class) ≤ cash_of_class before after class + 10000 * mils_of_class before after class
class-small before after sheets class low =
    let moved_before = movements_of before.trades in
    let moved_after = movements_of after.trades in
    let party = Party.Class class in
    let cash = balance moved_after party -ℤ balance moved_before party in
    let mils = pos (outstanding after.register class) -ℤ pos (outstanding before.register class) in
    omega (
      arith,
      found-small class cash mils (latest_nav sheets class) low,
      between-four (cents_received moved_after party) (cents_paid moved_after party) (cents_received moved_before party) (cents_paid moved_before party),
      between-two (outstanding after.register class) (outstanding before.register class),
    )

gains-sum : (f : ℕ → Option ClassGain) (classes : List ℕ) → size_of_gains (filter_map f classes) ≡ sum_by (λ class. size_found (f class)) classes
gains-sum f [] = refl
gains-sum f (class ∷ classes) =
    by (f class) (gains-sum f classes) (sum_by-cons (λ c. size_found (f c)) class classes) refl
  where
    by : (found : Option ClassGain) → size_of_gains (filter_map f classes) ≡ sum_by (λ c. size_found (f c)) classes → sum_by (λ c. size_found (f c)) (class ∷ classes) ≡ size_found (f class) + sum_by (λ c. size_found (f c)) classes → size_found found ≡ size_found (f class) → size_of_gains (cons_option found (filter_map f classes)) ≡ sum_by (λ c. size_found (f c)) (class ∷ classes)
    by None rest whole same = omega (arith, rest, whole, same)
    by (Some gain) rest whole same = omega (arith, rest, whole, same, sum_by-cons (λ (g : ClassGain). rise g.cents + fall g.cents) gain (filter_map f classes))

-- a class is one party
class-parties : (classes : List ℕ) → ((number : ℕ) → count_by (λ class. class == number) classes ≤ 1) → (q : Party) → count_by (λ class. same_party (Party.Class class) q) classes ≤ 1
class-parties classes once (Party.Class number) = once number
class-parties classes once _ = omega (arith, none classes)
  where
    none : (ns : List ℕ) → sum_by (λ (n : ℕ). 0) ns ≡ 0
    none [] = refl
    none (n ∷ ns) = omega (arith, sum_by-cons (λ (m : ℕ). 0) n ns, none ns)

scaled : (f : ℕ → ℕ) (classes : List ℕ) → sum_by (λ class. 10000 * f class) classes ≡ 10000 * sum_by f classes
scaled f [] = refl
scaled f (class ∷ classes) =
    omega (arith, scaled f classes, sum_by-cons f class classes, sum_by-cons (λ c. 10000 * f c) class classes)

pub gains-within : (classes : List ℕ) (before after : Day) (sheets : List Sheet) → ((number : ℕ) → count_by (λ class. class == number) classes ≤ 1) → ((class : ℕ) → latest_nav sheets class ≤ most_nav) → HasMovedLittle before → HasMovedLittle after → size_of_gains (gains_between classes before after sheets) ≤ 10 ^ 30
gains-within classes before after sheets once low moved_before moved_after =
    let gain = gain_of before after (movements_of before.trades) (movements_of after.trades) sheets in
    let each = sum_by-le-sum_by (λ class. size_found (gain class)) (λ class. cash_of_class before after class + 10000 * mils_of_class before after class) classes (λ class. class-small before after sheets class (low class)) in
    let both = sum-plus (cash_of_class before after) (λ class. 10000 * mils_of_class before after class) (λ class. cash_of_class before after class + 10000 * mils_of_class before after class) (λ class. refl) classes in
    let shares = sum-plus (λ class. outstanding after.register class) (λ class. outstanding before.register class) (mils_of_class before after) (λ class. refl) classes in
    omega (
      arith,
      gains-sum gain classes,
      each,
      both,
      scaled (mils_of_class before after) classes,
      shares,
      four-within Party.Class before.trades after.trades classes (class-parties classes once),
      mils-brought (λ (class : ℕ). class) classes after once moved_after.shares,
      mils-brought (λ (class : ℕ). class) classes before once moved_before.shares,
      moved_before.moves.cents,
      moved_after.moves.cents,
      moved_before.moves.mils,
      moved_after.moves.mils,
    )
