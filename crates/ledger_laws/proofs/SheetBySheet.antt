-- Orders sheet by sheet are those on each sheet under its number, and their numbers never fall.
use Rattle.std.proofs.Common.{All, List, [], ap, append-nil, arith, cond, false, filter, flat_map, get_or, length, map, refl, suc, true, zero, ℕ, ◌++◌, ◌+◌, ◌<◌, ◌==◌, ◌∙◌, ◌∷◌, ◌≡◌, ◌≤◌}
use Rattle.std.proofs.lemmas.List.Elements.{All-append, All-map, All-nil, All-weaker}
use Rattle.std.specs.Prelude.{AllPairs}
use Rattle.agent_events.specs.declared.order.Order.{Order}
use Rattle.forward_price.specs.declared.price_sheet.Sheet.{Sheet}
use Rattle.checkpoint_replay.proofs.NumberFacts.{under-append}
use Rattle.checkpoint_replay.specs.Replays.{NumberedOrder, orders_under}
use Rattle.ledger_laws.specs.OrderRows.{under_number}
use Rattle.register_laws.proofs.Comparisons.{eq-no, eq-yes}
use Rattle.register_laws.proofs.ListParts.{pairs-append}
use Rattle.register_laws.proofs.OrdersInTurn.{NumberedFrom, numbered-first, numbered-rest}

-- ---- orders of one number

own-number : (number asked : ℕ) → (number == asked) ≡ true → (orders : List Order) → orders_under asked (map (under_number number) orders) ≡ orders
own-number number asked same [] = refl
own-number number asked same (order ∷ orders) =
    ap (λ b. map (λ (row : NumberedOrder). row.order) (cond b (under_number number order ∷ filter (λ (row : NumberedOrder). row.number == asked) (map (under_number number) orders)) (filter (λ (row : NumberedOrder). row.number == asked) (map (under_number number) orders)))) same
    ∙ ap (λ (rest : List Order). order ∷ rest) (own-number number asked same orders)

other-number : (number asked : ℕ) → (number == asked) ≡ false → (orders : List Order) → orders_under asked (map (under_number number) orders) ≡ []
other-number number asked differs [] = refl
other-number number asked differs (order ∷ orders) =
    ap (λ b. map (λ (row : NumberedOrder). row.order) (cond b (under_number number order ∷ filter (λ (row : NumberedOrder). row.number == asked) (map (under_number number) orders)) (filter (λ (row : NumberedOrder). row.number == asked) (map (under_number number) orders)))) differs
    ∙ other-number number asked differs orders

-- ---- sheet by sheet

module _ (orders_on : Sheet → List Order) where
  abbrev numbered : Sheet → List NumberedOrder
  numbered sheet = map (under_number sheet.number) (orders_on sheet)

  none-under : (asked first : ℕ) (sheets : List Sheet) → NumberedFrom first sheets → asked < first → orders_under asked (flat_map numbered sheets) ≡ []
  none-under asked first [] are less = refl
  none-under asked first (sheet ∷ sheets) are less =
      let differs = eq-no sheet.number asked (λ e. omega (arith, e, numbered-first first sheet sheets are, less)) in
      under-append asked (numbered sheet) (flat_map numbered sheets)
      ∙ (ap (λ os. os ++ orders_under asked (flat_map numbered sheets)) (other-number sheet.number asked differs (orders_on sheet))
      ∙ none-under asked (suc first) sheets (numbered-rest first sheet sheets are) (omega (arith, less)))

  pub found-under : (first : ℕ) (sheets : List Sheet) → NumberedFrom first sheets → (place : ℕ) (d : Sheet) → place < length sheets → orders_under (place + first) (flat_map numbered sheets) ≡ orders_on (get_or sheets place d)
  found-under first [] are place d short = absurd (omega (arith, short))
  found-under first (sheet ∷ sheets) are zero d short =
      let own = eq-yes sheet.number (zero + first) (omega (arith, numbered-first first sheet sheets are)) in
      under-append (zero + first) (numbered sheet) (flat_map numbered sheets)
      ∙ (ap (λ os. os ++ orders_under (zero + first) (flat_map numbered sheets)) (own-number sheet.number (zero + first) own (orders_on sheet))
      ∙ (ap (λ os. orders_on sheet ++ os) (none-under (zero + first) (suc first) sheets (numbered-rest first sheet sheets are) (omega arith))
      ∙ append-nil (orders_on sheet)))
  found-under first (sheet ∷ sheets) are (suc place) d short =
      let differs = eq-no sheet.number (suc place + first) (λ e. omega (arith, e, numbered-first first sheet sheets are)) in
      let later : suc place + first ≡ place + suc first = omega arith in
      under-append (suc place + first) (numbered sheet) (flat_map numbered sheets)
      ∙ (ap (λ os. os ++ orders_under (suc place + first) (flat_map numbered sheets)) (other-number sheet.number (suc place + first) differs (orders_on sheet))
      ∙ (ap (λ n. orders_under n (flat_map numbered sheets)) later
      ∙ found-under (suc first) sheets (numbered-rest first sheet sheets are) place d (omega (arith, short))))

  -- ---- the numbers

  of-number : (sheet : Sheet) → All (λ (row : NumberedOrder). row.number ≡ sheet.number) (numbered sheet)
  of-number sheet =
      All-map (λ (row : NumberedOrder). row.number ≡ sheet.number) (under_number sheet.number) (orders_on sheet) (λ k d short. refl)

  from-first : (first : ℕ) (sheets : List Sheet) → NumberedFrom first sheets → All (λ (row : NumberedOrder). first ≤ row.number) (flat_map numbered sheets)
  from-first first [] are = All-nil (λ (row : NumberedOrder). first ≤ row.number)
  from-first first (sheet ∷ sheets) are =
      All-append (λ (row : NumberedOrder). first ≤ row.number) (numbered sheet) (flat_map numbered sheets)
      (All-weaker (λ (row : NumberedOrder). row.number ≡ sheet.number) (λ (row : NumberedOrder). first ≤ row.number) (λ row is. omega (arith, is, numbered-first first sheet sheets are)) (numbered sheet) (of-number sheet))
      (All-weaker (λ (row : NumberedOrder). suc first ≤ row.number) (λ (row : NumberedOrder). first ≤ row.number) (λ row is. omega (arith, is)) (flat_map numbered sheets) (from-first (suc first) sheets (numbered-rest first sheet sheets are)))

  pub numbers-rise : (first : ℕ) (sheets : List Sheet) → NumberedFrom first sheets → AllPairs (λ (row other : NumberedOrder). row.number ≤ other.number) (flat_map numbered sheets)
  numbers-rise first [] are = λ i j d less short. absurd (omega (arith, short))
  numbers-rise first (sheet ∷ sheets) are =
      let behind = from-first (suc first) sheets (numbered-rest first sheet sheets are) in
      pairs-append (λ (row other : NumberedOrder). row.number ≤ other.number) (numbered sheet) (flat_map numbered sheets)
      (λ i j d less short. omega (arith, of-number sheet i d (omega (arith, less, short)), of-number sheet j d short))
      (numbers-rise (suc first) sheets (numbered-rest first sheet sheets are))
      (All-weaker (λ (row : NumberedOrder). row.number ≡ sheet.number) (λ (row : NumberedOrder). All (λ (other : NumberedOrder). row.number ≤ other.number) (flat_map numbered sheets))
      (λ row is. All-weaker (λ (other : NumberedOrder). suc first ≤ other.number) (λ (other : NumberedOrder). row.number ≤ other.number) (λ other later. omega (arith, is, later, numbered-first first sheet sheets are)) (flat_map numbered sheets) behind)
      (numbered sheet) (of-number sheet))
