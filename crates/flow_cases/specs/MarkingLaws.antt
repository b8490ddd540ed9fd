-- the laws of the problem of marks
use Rattle.std.specs.Prelude.{◌≡◌, ◌≢◌, ◌⊎◌, ℕ, ◌+◌, ◌<◌, ◌≤◌, ◌==◌, Bool, true, false, ◌&&◌, ◌||◌, Option, Some, None, List, [], ◌∷◌, length, map, All, refl, slice_get, option_map, unwrap_or}
use Rattle.std.specs.List.{zip, list_all, list_any, range_with_len}
use Rattle.std.proofs.Common.{zero, suc, cond, ap, sym, subst, ◌∙◌, inl, inr, ⊎_elim, arith}
use Rattle.std.proofs.lemmas.Bool.{and_parts, and_from, or_left, or_right}
use Rattle.std.proofs.lemmas.List.FromFn.{length-map-range_with_len}
use Rattle.std.proofs.lemmas.Option.{get_or_from_slice_get}
use Rattle.fix_engine.specs.Order.{Below}
use Rattle.fix_engine.specs.Problem.{Both}
use Rattle.fix_engine.specs.Lawful.{IsLawful}
use Rattle.fix_engine.specs.Chains.{IsChain-by_rank}
use Rattle.flow_cases.specs.declared.edge.Edge.{Edge}
use Rattle.flow_cases.specs.declared.edge.Way.{Way}
use Rattle.flow_cases.specs.Slots.{is_marked, implies, marks}
use Rattle.flow_cases.specs.Marking.{IsEdge, marks_slot, marked_by, source_of, also_of, goal_of, ways_of, start_of, marking}

implies_self : (a : Bool) → implies a a ≡ true
implies_self true = refl
implies_self false = refl

implies_both : (a b : Bool) → implies a b ≡ true → implies b a ≡ true → a ≡ b
implies_both true true h k = refl
implies_both true false h k = absurd (cc)
implies_both false true h k = absurd (cc)
implies_both false false h k = refl

implies_through : (a b c : Bool) → implies a b ≡ true → implies b c ≡ true → implies a c ≡ true
implies_through false b c h k = refl
implies_through true true c h k = k
implies_through true false c h k = absurd (cc)

implies_left : (a b : Bool) → implies a (a || b) ≡ true
implies_left true b = refl
implies_left false b = refl

implies_right : (a b : Bool) → implies b (a || b) ≡ true
implies_right true true = refl
implies_right true false = refl
implies_right false b = implies_self b

implies_least : (a b c : Bool) → implies a c ≡ true → implies b c ≡ true → implies (a || b) c ≡ true
implies_least true b c h k = h
implies_least false b c h k = k

implies_and : (a b c d : Bool) → implies a c ≡ true → implies b d ≡ true → implies (a && b) (c && d) ≡ true
implies_and false b c d h k = refl
implies_and true false c d h k = refl
implies_and true true true d h k = k
implies_and true true false d h k = absurd (cc)

implies_or : (a b c d : Bool) → implies a c ≡ true → implies b d ≡ true → implies (a || b) (c || d) ≡ true
implies_or false false c d h k = refl
implies_or false true c d h k = or_right c d k
implies_or true b c d h k = or_left c d h

below_reflexive : (a : List Bool) → Below marks a a
below_reflexive [] = refl
below_reflexive (x ∷ a) = and_from (implies x x) (list_all (λ (p : Bool × Bool). implies p.0 p.1) (zip a a)) (implies_self x) (below_reflexive a)

-- the heads, and the rests
parts : (x y : Bool) (a b : List Bool) → Below marks (x ∷ a) (y ∷ b) → (implies x y ≡ true) × Below marks a b
parts x y a b h = and_parts (implies x y) (list_all (λ (p : Bool × Bool). implies p.0 p.1) (zip a b)) h

whole : (x y : Bool) (a b : List Bool) → implies x y ≡ true → Below marks a b → Below marks (x ∷ a) (y ∷ b)
whole x y a b h k = and_from (implies x y) (list_all (λ (p : Bool × Bool). implies p.0 p.1) (zip a b)) h k

below_antisymmetric : (a b : List Bool) → length a ≡ length b → Below marks a b → Below marks b a → a ≡ b
below_antisymmetric [] [] e h k = refl
below_antisymmetric [] (y ∷ b) e h k = absurd (omega arith)
below_antisymmetric (x ∷ a) [] e h k = absurd (omega arith)
below_antisymmetric (x ∷ a) (y ∷ b) e h k =
    let head : x ≡ y = implies_both x y (parts x y a b h).0 (parts y x b a k).0 in
    let rest : a ≡ b = below_antisymmetric a b (omega arith) (parts x y a b h).1 (parts y x b a k).1 in
    ap (λ (z : Bool). z ∷ a) head ∙ ap (λ (zs : List Bool). y ∷ zs) rest

below_transitive : (a b c : List Bool) → length a ≡ length b → length b ≡ length c → Below marks a b → Below marks b c → Below marks a c
below_transitive [] b c e f h k = refl
below_transitive (x ∷ a) [] c e f h k = absurd (omega arith)
below_transitive (x ∷ a) (y ∷ b) [] e f h k = absurd (omega arith)
below_transitive (x ∷ a) (y ∷ b) (z ∷ c) e f h k =
    whole x z a c (implies_through x y z (parts x y a b h).0 (parts y z b c k).0) (below_transitive a b c (omega arith) (omega arith) (parts x y a b h).1 (parts y z b c k).1)

either : List Bool → List Bool → List Bool
either a b = map (λ (p : Bool × Bool). p.0 || p.1) (zip a b)

join_length : (a b : List Bool) → length a ≡ length b → length (marks.join a b) ≡ length a
join_length [] b e = refl
join_length (x ∷ a) [] e = absurd (omega arith)
join_length (x ∷ a) (y ∷ b) e = let rest = join_length a b (omega arith) in ap (λ (n : ℕ). suc n) rest

below_left : (a b : List Bool) → length a ≡ length b → Below marks a (marks.join a b)
below_left [] b e = refl
below_left (x ∷ a) [] e = absurd (omega arith)
below_left (x ∷ a) (y ∷ b) e =
    whole x (x || y) a (marks.join a b) (implies_left x y) (below_left a b (omega arith))

below_right : (a b : List Bool) → length a ≡ length b → Below marks b (marks.join a b)
below_right [] [] e = refl
below_right [] (y ∷ b) e = absurd (omega arith)
below_right (x ∷ a) [] e = absurd (omega arith)
below_right (x ∷ a) (y ∷ b) e =
    whole y (x || y) b (marks.join a b) (implies_right x y) (below_right a b (omega arith))

below_least : (a b c : List Bool) → length a ≡ length b → length b ≡ length c → Below marks a c → Below marks b c → Below marks (marks.join a b) c
below_least [] b c e f h k = refl
below_least (x ∷ a) [] c e f h k = absurd (omega arith)
below_least (x ∷ a) (y ∷ b) [] e f h k = absurd (omega arith)
below_least (x ∷ a) (y ∷ b) (z ∷ c) e f h k =
    whole (x || y) z (marks.join a b) c (implies_least x y z (parts x z a c h).0 (parts y z b c k).0) (below_least a b c (omega arith) (omega arith) (parts x z a c h).1 (parts y z b c k).1)

-- how many slots are marked
abbrev pub marked_count : List Bool → ℕ
marked_count [] = 0
marked_count (x ∷ a) = cond x 1 0 + marked_count a

count_small : (a : List Bool) → marked_count a ≤ length a
count_small [] = omega arith
count_small (true ∷ a) = let rest = count_small a in omega arith
count_small (false ∷ a) = let rest = count_small a in omega arith

count_rises : (a b : List Bool) → length a ≡ length b → Below marks a b → (a ≡ b) ⊎ (marked_count a < marked_count b)
count_rises [] [] e h = inl refl
count_rises [] (y ∷ b) e h = absurd (omega arith)
count_rises (x ∷ a) [] e h = absurd (omega arith)
count_rises (true ∷ a) (true ∷ b) e h =
    ⊎_elim (λ (s : a ≡ b). inl (ap (λ (zs : List Bool). true ∷ zs) s)) (λ (l : marked_count a < marked_count b). inr (omega arith)) (count_rises a b (omega arith) (parts true true a b h).1)
count_rises (true ∷ a) (false ∷ b) e h = let f = (parts true false a b h).0 in absurd (cc)
count_rises (false ∷ a) (true ∷ b) e h =
    ⊎_elim (λ (s : a ≡ b). let n : marked_count a ≡ marked_count b = ap marked_count s in inr (omega arith)) (λ (l : marked_count a < marked_count b). inr (omega arith)) (count_rises a b (omega arith) (parts false true a b h).1)
count_rises (false ∷ a) (false ∷ b) e h =
    ⊎_elim (λ (s : a ≡ b). inl (ap (λ (zs : List Bool). false ∷ zs) s)) (λ (l : marked_count a < marked_count b). inr (omega arith)) (count_rises a b (omega arith) (parts false false a b h).1)

-- what a higher fact marks
marked_below : (slot : Option ℕ) (a b : List Bool) → length a ≡ length b → Below marks a b → implies (is_marked slot a) (is_marked slot b) ≡ true
marked_below None a b e h = refl
marked_below (Some slot) [] [] e h = refl
marked_below (Some slot) [] (y ∷ b) e h = absurd (omega arith)
marked_below (Some slot) (x ∷ a) [] e h = absurd (omega arith)
marked_below (Some zero) (x ∷ a) (y ∷ b) e h = (parts x y a b h).0
marked_below (Some (suc slot)) (x ∷ a) (y ∷ b) e h = marked_below (Some slot) a b (omega arith) (parts x y a b h).1

also_below : (slot : Option ℕ) (b d : Option (List Bool)) → Both (λ (x y : List Bool). length x ≡ length y) b d → Both (Below marks) b d → implies (is_marked slot (unwrap_or b [])) (is_marked slot (unwrap_or d [])) ≡ true
also_below slot None None e h = implies_self (is_marked slot [])
also_below slot (Some b) (Some d) e h = marked_below slot b d e h
also_below slot None (Some d) e h = absurd h
also_below slot (Some b) None e h = absurd h

any_below : (f g : Way → Bool) → ((way : Way) → implies (f way) (g way) ≡ true) → (ways : List Way) → implies (list_any f ways) (list_any g ways) ≡ true
any_below f g h [] = refl
any_below f g h (way ∷ ways) =
    implies_or (f way) (list_any f ways) (g way) (list_any g ways) (h way) (any_below f g h ways)

map_below : (f g : ℕ → Bool) → ((slot : ℕ) → implies (f slot) (g slot) ≡ true) → (slots : List ℕ) → Below marks (map f slots) (map g slots)
map_below f g h [] = refl
map_below f g h (slot ∷ slots) = whole (f slot) (g slot) (map f slots) (map g slots) (h slot) (map_below f g h slots)

made_below : (width : ℕ) (ways : List Way) (a c : List Bool) (b d : Option (List Bool)) → length a ≡ length c → Both (λ (x y : List Bool). length x ≡ length y) b d → Below marks a c → Both (Below marks) b d → Below marks (marked_by width ways a b) (marked_by width ways c d)
made_below width ways a c b d e f h k =
    map_below (λ slot. list_any (λ way. marks_slot a b slot way) ways) (λ slot. list_any (λ way. marks_slot c d slot way) ways) (λ slot. any_below (λ way. marks_slot a b slot way) (λ way. marks_slot c d slot way) (λ way. implies_and (way.to == slot) (is_marked way.from a && is_marked way.with (unwrap_or b [])) (way.to == slot) (is_marked way.from c && is_marked way.with (unwrap_or d [])) (implies_self (way.to == slot)) (implies_and (is_marked way.from a) (is_marked way.with (unwrap_or b [])) (is_marked way.from c) (is_marked way.with (unwrap_or d [])) (marked_below way.from a c e h) (also_below way.with b d f k))) ways) (range_with_len 0 width)

same_length : (starts : List (List Bool)) (o : Option ℕ) (b d : Option (List Bool)) → Both (λ (k : ℕ) (a : List Bool). length a ≡ length (start_of starts k)) o b → Both (λ (k : ℕ) (a : List Bool). length a ≡ length (start_of starts k)) o d → Both (λ (x y : List Bool). length x ≡ length y) b d
same_length starts None None None h k = tt
same_length starts None (Some b) d h k = absurd h
same_length starts None None (Some d) h k = absurd k
same_length starts (Some q) None d h k = absurd h
same_length starts (Some q) (Some b) None h k = absurd k
same_length starts (Some q) (Some b) (Some d) h k = h ∙ sym k

read_at : {X : Type 0} (xs : List X) (i : ℕ) → i < length xs → (x : X) × (slice_get xs i ≡ Some x)
read_at [] i l = absurd (omega arith)
read_at (x ∷ xs) zero l = (x, refl)
read_at (x ∷ xs) (suc i) l = read_at xs i (omega arith)

module _ (starts : List (List Bool)) (edges : List Edge) (within : All (λ edge. IsEdge (length starts) edge) edges) (few : All (λ start. length start ≤ 64) starts) where
  edge_is : (e : ℕ) → e < length edges → (edge : Edge) × (slice_get edges e ≡ Some edge) × IsEdge (length starts) edge
  edge_is e l =
      let at = read_at edges e l in
      (at.0, at.1, subst (λ (edge : Edge). IsEdge (length starts) edge) (get_or_from_slice_get edges e at.0 at.0 at.1) (within e at.0 l))

  start_short : (k : ℕ) → k < length starts → length (start_of starts k) ≤ 64
  start_short k l =
      let at = read_at starts k l in
      let short : length at.0 ≤ 64 = subst (λ (xs : List Bool). length xs ≤ 64) (get_or_from_slice_get starts k at.0 at.0 at.1) (few k at.0 l) in
      rw at.1 short

  source_within : (e : ℕ) → e < length edges → source_of edges e < length starts
  source_within e l = let at = edge_is e l in rw at.1 at.2.0

  goal_within : (e : ℕ) → e < length edges → goal_of edges e < length starts
  goal_within e l = let at = edge_is e l in rw at.1 at.2.2

  also_within : (e q : ℕ) → e < length edges → also_of edges e ≡ Some q → q < length starts
  also_within e q l h =
      let at = edge_is e l in
      let also : at.0.also ≡ Some q = sym (ap (λ (o : Option Edge). unwrap_or (option_map (λ (edge : Edge). edge.also) o) None) at.1) ∙ h in
      at.2.1 q also

  rises : (k : ℕ) (a b : List Bool) → length a ≡ length (start_of starts k) → length b ≡ length (start_of starts k) → Below marks a b → a ≢ b → marked_count a < marked_count b
  rises k a b e f h ne =
      ⊎_elim (λ (s : a ≡ b). absurd (ne s)) (λ (l : marked_count a < marked_count b). l) (count_rises a b (e ∙ sym f) h)

  pub marking_lawful : IsLawful marks (marking starts edges)
  marking_lawful =
      record {
        alike = λ k a b l e f. e ∙ sym f;
        ordered = λ k l. record { reflexive = λ a _. below_reflexive a; antisymmetric = λ a b e f h i. below_antisymmetric a b (e ∙ sym f) h i; transitive = λ a b c e f g h i. below_transitive a b c (e ∙ sym f) (f ∙ sym g) h i };
        joined = λ k l. record { closed = λ a b e f. join_length a b (e ∙ sym f) ∙ e; left = λ a b e f. below_left a b (e ∙ sym f); right = λ a b e f. below_right a b (e ∙ sym f); least = λ a b c e f g h i. below_least a b c (e ∙ sym f) (f ∙ sym g) h i };
        height = λ k chain l h. IsChain-by_rank marks (λ a. length a ≡ length (start_of starts k)) marked_count 65 (rises k) (λ a e. let s = count_small a in let t = start_short k l in omega arith) chain h;
        source = source_within;
        also = also_within;
        goal = goal_within;
        start = λ _ _. refl;
        transfer = λ e a b _ _ _. length-map-range_with_len (λ slot. list_any (λ way. marks_slot a b slot way) (ways_of edges e)) 0 (length (start_of starts (goal_of edges e)));
        monotone = λ e a c b d l f g h i j k. made_below (length (start_of starts (goal_of edges e))) (ways_of edges e) a c b d (f ∙ sym g) (same_length starts (also_of edges e) b d h i) j k;
      }
