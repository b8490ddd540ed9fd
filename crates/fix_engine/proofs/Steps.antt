-- what the start of a search and a visit of an edge keep
use Rattle.std.proofs.Common.{◌≡◌, ◌≢◌, ◌⊎◌, ℕ, zero, suc, zero-le, ◌+◌, ◌-◌, ◌*◌, ◌<◌, ◌≤◌, Option, Some, None, List, [], ◌∷◌, length, get_or, set, replicate, Contains, sym, ◌∙◌, ap, inl, inr, ⊎_elim, subst, arith, get_or-set_same, get_or-set_other}
use Rattle.std.specs.Prelude.{slice_get}
use Rattle.std.specs.List.{sum_by}
use Rattle.std.proofs.lemmas.List.Sums.{sum_by-cons}
use Rattle.std.proofs.Math.Nat.{mul-le-mul_right, mul-add}
use Rattle.std.proofs.lemmas.Bool.{cases_eq, cases_lt}
use Rattle.std.proofs.lemmas.List.{length-set, set-get_or, get_or-replicate, length-replicate}
use Rattle.fix_engine.specs.Order.{Order, Below}
use Rattle.fix_engine.specs.Problem.{Problem}
use Rattle.fix_engine.specs.Lawful.{IsLawful, IsChain}
use Rattle.fix_engine.specs.Solution.{IsSolution, IsLeast, at_points, carried}
use Rattle.fix_engine.specs.Derived.{IsDerived}
use Rattle.fix_engine.specs.Derived.IsDerived.{start, joins}
use Rattle.fix_engine.specs.Readers.{AreReaders, AllWait, readers_of, reads, facts_read}
use Rattle.fix_engine.specs.Search.{IsRising, IsOnTheWay, IsMet, MetOrWaits, EndsWithin, visits_left}
use Rattle.fix_engine.proofs.Points.{at_points-at, at_points-read, at_points-set_same, at_points-set_other, option_map-same, also_cases, carried_fact, carried_below}
use Rattle.common_laws.proofs.Members.{contains_cases}
use Rattle.fix_engine.proofs.Counts.{reads_small}

-- a rise at a point takes back the visits of its readers
pub visits_left-set : (rooms : List ℕ) (rows : List (List ℕ)) (k room : ℕ) → k < length rooms → k < length rows → get_or rooms k 0 ≡ suc room → visits_left (set rooms k room) rows + length (readers_of rows k) ≡ visits_left rooms rows
visits_left-set [] rows k room l m e = absurd (omega arith)
visits_left-set (r ∷ rooms) [] k room l m e = absurd (omega arith)
visits_left-set (r ∷ rooms) (row ∷ rows) zero room l m e = rw e (omega arith)
visits_left-set (r ∷ rooms) (row ∷ rows) (suc k) room l m e =
    let h = visits_left-set rooms rows k room (omega arith) (omega arith) e in omega arith

-- where no point has more room than h, the readers ask for h visits each at most
visits_left-le : (rooms : List ℕ) (rows : List (List ℕ)) (h : ℕ) → ((k : ℕ) → k < length rooms → get_or rooms k 0 ≤ h) → visits_left rooms rows ≤ h * sum_by (λ (row : List ℕ). length row) rows
visits_left-le [] rows h small = zero-le
visits_left-le (r ∷ rooms) [] h small = zero-le
visits_left-le (r ∷ rooms) (row ∷ rows) h small =
    let rest : visits_left rooms rows ≤ h * sum_by (λ (row' : List ℕ). length row') rows = visits_left-le rooms rows h (λ k l. small (suc k) (omega arith)) in
    let here : r * length row ≤ h * length row = mul-le-mul_right (length row) (small 0 (omega arith)) in
    let sums : sum_by (λ (row' : List ℕ). length row') (row ∷ rows) ≡ length row + sum_by (λ (row' : List ℕ). length row') rows = sum_by-cons (λ (row' : List ℕ). length row') row rows in
    rw sums (rw (mul-add h (length row) (sum_by (λ (row' : List ℕ). length row') rows)) (omega arith))

reads_some : (o : Option ℕ) → 1 ≤ facts_read o
reads_some None = omega arith
reads_some (Some q) = omega arith

edges_read : {Fact : Type 0} (p : Problem Fact) (n : ℕ) → n ≤ reads p n
edges_read p zero = zero-le
edges_read p (suc n) = let rest = edges_read p n in let more = reads_some (p.also n) in omega arith

within_height : (h r e v : ℕ) → v ≤ (h - 1) * r → e ≤ r → 1 ≤ h → e + v ≤ r * h
within_height zero r e v most some high = absurd (omega arith)
within_height (suc h) r e v most some high =
    let less : suc h - 1 ≡ h = omega arith in
    let m : v ≤ h * r = subst (λ (n : ℕ). v ≤ n * r) less most in
    omega arith

module _ {Fact : Type 0} (order : Order Fact) (p : Problem Fact) (law : IsLawful order p) where
  -- a search makes no more visits than its edges read facts, each as often as the height says
  pub visits-start : (rooms : List ℕ) (rows : List (List ℕ)) → AreReaders p p.edges rows → ((k : ℕ) → k < length rooms → get_or rooms k 0 ≤ p.height - 1) → p.edges + visits_left rooms rows ≤ reads p p.edges * p.height
  visits-start rooms rows readers small =
      let most : visits_left rooms rows ≤ (p.height - 1) * reads p p.edges = subst (λ (n : ℕ). visits_left rooms rows ≤ (p.height - 1) * n) readers.total (visits_left-le rooms rows (p.height - 1) small) in
      ⊎_elim (λ (some : 0 < p.edges). let high : length (p.start (p.source 0) ∷ []) ≤ p.height = law.height (p.source 0) (p.start (p.source 0) ∷ []) (law.source 0 some) (law.start (p.source 0) (law.source 0 some)) in within_height p.height (reads p p.edges) p.edges (visits_left rooms rows) most (edges_read p p.edges) (omega arith)) (λ (none : p.edges ≤ 0). let e : p.edges ≡ 0 = omega arith in let r : reads p p.edges ≡ 0 = ap (λ (n : ℕ). reads p n) e in let v : visits_left rooms rows ≤ (p.height - 1) * 0 = subst (λ (n : ℕ). visits_left rooms rows ≤ (p.height - 1) * n) r most in let g : p.edges + visits_left rooms rows ≤ 0 * p.height = omega arith in subst (λ (n : ℕ). p.edges + visits_left rooms rows ≤ n * p.height) (sym r) g) (cases_lt 0 p.edges)

  -- at the starts nothing has risen
  pub IsOnTheWay-starts : (facts : List Fact) → length facts ≡ p.points → ((k : ℕ) → k < p.points → slice_get facts k ≡ Some (p.start k)) → IsOnTheWay order p facts
  IsOnTheWay-starts facts e starts =
      record {
        count = e;
        are_facts = λ k l. subst (p.IsFact k) (sym (at_start k l)) (law.start k l);
        derived = λ k l. subst (IsDerived order p k) (sym (at_start k l)) (start k l);
        starts = λ k l. subst (Below order (p.start k)) (sym (at_start k l)) ((law.ordered k l).reflexive _ (law.start k l));
        below = λ t s k l. subst (λ (x : Fact). Below order x (t k)) (sym (at_start k l)) (s.starts k l);
      }
    where
      at_start : (k : ℕ) → k < p.points → at_points p facts k ≡ p.start k
      at_start k l = at_points-at p facts k (p.start k) (starts k l)

  -- the search ends
  pub EndsWithin-starts : (rows : List (List ℕ)) → AreReaders p p.edges rows → (facts : List Fact) (waiting : List ℕ) → length waiting ≡ p.edges → ((k : ℕ) → k < p.points → slice_get facts k ≡ Some (p.start k)) → EndsWithin order p rows facts waiting (2 * p.edges * p.height)
  EndsWithin-starts rows readers facts waiting all starts =
      record {
        rooms = replicate p.points (p.height - 1);
        count = length-replicate p.points (p.height - 1);
        rising = λ k l. subst (λ (x : Fact). IsRising order (p.IsFact k) p.height x (get_or (replicate p.points (p.height - 1)) k 0)) (sym (at_points-at p facts k (p.start k) (starts k l))) (record { before = []; chain = law.start k l; enough = let full = get_or-replicate p.points k (p.height - 1) 0 l in omega arith });
        visits = let most = visits-start (replicate p.points (p.height - 1)) rows readers (λ k l. let full = get_or-replicate p.points k (p.height - 1) 0 (omega (arith, l, length-replicate p.points (p.height - 1))) in omega arith) in let few = mul-le-mul_right p.height (reads_small p p.edges) in omega arith;
      }

  module _ (facts : List Fact) (way : IsOnTheWay order p facts) (e : ℕ) (l : e < p.edges) where
    now : ℕ → Fact
    now = at_points p facts

    made : Fact
    made = carried p (at_points p facts) e

    g_in : p.goal e < p.points
    g_in = law.goal e l

    made_fact : p.IsFact (p.goal e) (carried p (at_points p facts) e)
    made_fact = carried_fact order p law (at_points p facts) way.are_facts e l

    old_fact : p.IsFact (p.goal e) (at_points p facts (p.goal e))
    old_fact = way.are_facts (p.goal e) g_in

    -- an edge whose goal didn't change is met
    pub MetOrWaits-same : (waiting : List ℕ) → order.join (at_points p facts (p.goal e)) (carried p (at_points p facts) e) ≡ at_points p facts (p.goal e) → MetOrWaits order p facts (e ∷ waiting) → MetOrWaits order p facts waiting
    MetOrWaits-same waiting same was x m =
        ⊎_elim (λ (h : IsMet order p facts x). inl h) (λ (h : Contains (e ∷ waiting) x). ⊎_elim (λ (i : e ≡ x). inl (subst (IsMet order p facts) i met)) (λ (i : Contains waiting x). inr i) (contains_cases e waiting x h)) (was x m)
      where
        met : IsMet order p facts e
        met = subst (Below order (carried p (at_points p facts) e)) same ((law.joined (p.goal e) g_in).right _ _ old_fact made_fact)

    -- the fact at the goal rises to the join, and each reader waits
    module _ (joined : Fact) (is : joined ≡ order.join (at_points p facts (p.goal e)) (carried p (at_points p facts) e)) where
      join_fact : p.IsFact (p.goal e) joined
      join_fact = subst (p.IsFact (p.goal e)) (sym is) ((law.joined (p.goal e) g_in).closed _ _ old_fact made_fact)

      derived_here : IsDerived order p (p.goal e) joined
      derived_here =
          subst (IsDerived order p (p.goal e)) (sym is) (joins e (at_points p facts) (at_points p facts (p.goal e)) l (way.derived _ (law.source e l)) (λ q h. way.derived q (law.also e q l h)) (way.derived _ g_in))

      old_below : Below order (at_points p facts (p.goal e)) joined
      old_below = subst (Below order (at_points p facts (p.goal e))) (sym is) ((law.joined (p.goal e) g_in).left _ _ old_fact made_fact)

      made_below : Below order (carried p (at_points p facts) e) joined
      made_below = subst (Below order (carried p (at_points p facts) e)) (sym is) ((law.joined (p.goal e) g_in).right _ _ old_fact made_fact)

      at_goal : at_points p (set facts (p.goal e) joined) (p.goal e) ≡ joined
      at_goal = at_points-set_same p facts (p.goal e) joined (omega (arith, g_in, way.count))

      elsewhere : (k : ℕ) → k ≢ p.goal e → at_points p (set facts (p.goal e) joined) k ≡ at_points p facts k
      elsewhere k o = at_points-set_other p facts (p.goal e) k joined o

      -- what holds of the join at the goal and of the old facts elsewhere holds at each point
      by_point : (Q : ℕ → Fact → Type 0) → Q (p.goal e) joined → ((k : ℕ) → k < p.points → Q k (at_points p facts k)) → (k : ℕ) → k < p.points → Q k (at_points p (set facts (p.goal e) joined) k)
      by_point Q here there k m =
          ⊎_elim (λ (s : k ≡ p.goal e). subst (λ (i : ℕ). Q i (at_points p (set facts (p.goal e) joined) i)) (sym s) (subst (Q (p.goal e)) (sym at_goal) here)) (λ (o : k ≢ p.goal e). subst (Q k) (sym (elsewhere k o)) (there k m)) (cases_eq k (p.goal e))

      facts_rise : (k : ℕ) → k < p.points → Below order (at_points p facts k) (at_points p (set facts (p.goal e) joined) k)
      facts_rise = by_point (λ k x. Below order (at_points p facts k) x) old_below (λ k m. (law.ordered k m).reflexive _ (way.are_facts k m))

      below_all : (t : ℕ → Fact) → IsSolution order p t → Below order joined (t (p.goal e))
      below_all t s =
          let upper : Below order (carried p (at_points p facts) e) (t (p.goal e)) = (law.ordered (p.goal e) g_in).transitive _ _ _ made_fact (carried_fact order p law t s.facts e l) (s.facts _ g_in) (carried_below order p law (at_points p facts) t way.are_facts s.facts (way.below t s) e l) (s.edges e l) in
          subst (λ (x : Fact). Below order x (t (p.goal e))) (sym is) ((law.joined (p.goal e) g_in).least _ _ _ old_fact made_fact (s.facts _ g_in) (way.below t s _ g_in) upper)

      pub IsOnTheWay-rise : IsOnTheWay order p (set facts (p.goal e) joined)
      IsOnTheWay-rise =
          record {
            count = length-set facts (p.goal e) joined ∙ way.count;
            are_facts = by_point p.IsFact join_fact way.are_facts;
            derived = by_point (IsDerived order p) derived_here way.derived;
            starts = by_point (λ k x. Below order (p.start k) x) ((law.ordered (p.goal e) g_in).transitive _ _ _ (law.start _ g_in) old_fact join_fact (way.starts _ g_in) old_below) way.starts;
            below = λ t s. by_point (λ k x. Below order x (t k)) (below_all t s) (way.below t s);
          }

      module _ (rows : List (List ℕ)) (readers : AreReaders p p.edges rows) (rises : at_points p facts (p.goal e) ≢ joined) (waiting : List ℕ) (n : ℕ) (ends : EndsWithin order p rows facts waiting n) where
        rooms : List ℕ
        rooms = ends.rooms

        longer : IsChain order (p.IsFact (p.goal e)) (joined ∷ at_points p facts (p.goal e) ∷ (ends.rising _ g_in).before)
        longer = (join_fact, old_below, rises, (ends.rising _ g_in).chain)

        room_left : 1 ≤ get_or ends.rooms (p.goal e) 0
        room_left =
            let most : length (joined ∷ at_points p facts (p.goal e) ∷ (ends.rising _ g_in).before) ≤ p.height = law.height (p.goal e) (joined ∷ at_points p facts (p.goal e) ∷ (ends.rising _ g_in).before) g_in longer in
            let enough = (ends.rising _ g_in).enough in
            omega arith

        rising_here : (room : ℕ) → get_or ends.rooms (p.goal e) 0 ≡ suc room → IsRising order (p.IsFact (p.goal e)) p.height joined room
        rising_here room less =
            record {
              before = at_points p facts (p.goal e) ∷ (ends.rising _ g_in).before;
              chain = longer;
              enough = let enough = (ends.rising _ g_in).enough in omega arith;
            }

        rising_at : (room : ℕ) → get_or ends.rooms (p.goal e) 0 ≡ suc room → (k : ℕ) → k < p.points → IsRising order (p.IsFact k) p.height (at_points p (set facts (p.goal e) joined) k) (get_or (set ends.rooms (p.goal e) room) k 0)
        rising_at room less k m =
            ⊎_elim (λ (s : k ≡ p.goal e). subst (λ (i : ℕ). IsRising order (p.IsFact i) p.height (at_points p (set facts (p.goal e) joined) i) (get_or (set ends.rooms (p.goal e) room) i 0)) (sym s) (subst (λ (x : Fact). IsRising order (p.IsFact (p.goal e)) p.height x (get_or (set ends.rooms (p.goal e) room) (p.goal e) 0)) (sym at_goal) (subst (IsRising order (p.IsFact (p.goal e)) p.height joined) (sym (get_or-set_same ends.rooms (p.goal e) room 0 (omega (arith, g_in, ends.count)))) (rising_here room less)))) (λ (o : k ≢ p.goal e). subst (λ (x : Fact). IsRising order (p.IsFact k) p.height x (get_or (set ends.rooms (p.goal e) room) k 0)) (sym (elsewhere k o)) (subst (IsRising order (p.IsFact k) p.height (at_points p facts k)) (sym (get_or-set_other ends.rooms (p.goal e) k room 0 o)) (ends.rising k m))) (cases_eq k (p.goal e))

        -- a rise takes back as many visits as the readers that it wakes
        pub EndsWithin-rise : (more : List ℕ) → length more ≤ length waiting + length (readers_of rows (p.goal e)) → EndsWithin order p rows (set facts (p.goal e) joined) more n
        EndsWithin-rise more grown =
            let less : get_or ends.rooms (p.goal e) 0 ≡ suc (get_or ends.rooms (p.goal e) 0 - 1) = let some = room_left in omega arith in
            let left = visits_left-set ends.rooms rows (p.goal e) (get_or ends.rooms (p.goal e) 0 - 1) (omega (arith, g_in, ends.count)) (omega (arith, g_in, readers.count)) less in
            let visits = ends.visits in
            record {
              rooms = set ends.rooms (p.goal e) (get_or ends.rooms (p.goal e) 0 - 1);
              count = length-set ends.rooms (p.goal e) (get_or ends.rooms (p.goal e) 0 - 1) ∙ ends.count;
              rising = rising_at (get_or ends.rooms (p.goal e) 0 - 1) less;
              visits = omega arith;
            }

      -- an edge that doesn't read the goal makes what it made
      carried-same : (x : ℕ) → p.source x ≢ p.goal e → ((q : ℕ) → p.also x ≡ Some q → q ≢ p.goal e) → carried p (at_points p (set facts (p.goal e) joined)) x ≡ carried p (at_points p facts) x
      carried-same x o n =
          let one = elsewhere (p.source x) o in
          let two = option_map-same (at_points p (set facts (p.goal e) joined)) (at_points p facts) (p.also x) (λ q i. elsewhere q (n q i)) in
          cc

      module _ (waiting more : List ℕ) (was : MetOrWaits order p facts (e ∷ waiting)) (kept : (x : ℕ) → Contains waiting x → Contains more x) (woken : AllWait p (p.goal e) more) where
        met_still : (x : ℕ) → x < p.edges → carried p (at_points p (set facts (p.goal e) joined)) x ≡ carried p (at_points p facts) x → IsMet order p facts x → IsMet order p (set facts (p.goal e) joined) x
        met_still x m same h =
            let x_in = law.goal x m in
            let made_there = carried_fact order p law (at_points p facts) way.are_facts x m in
            let new_fact = by_point p.IsFact join_fact way.are_facts (p.goal x) x_in in
            subst (λ (y : Fact). Below order y (at_points p (set facts (p.goal e) joined) (p.goal x))) (sym same) ((law.ordered (p.goal x) x_in).transitive _ _ _ made_there (way.are_facts _ x_in) new_fact h (facts_rise _ x_in))

        met_here : carried p (at_points p (set facts (p.goal e) joined)) e ≡ carried p (at_points p facts) e → IsMet order p (set facts (p.goal e) joined) e
        met_here same =
            subst (λ (y : Fact). Below order y (at_points p (set facts (p.goal e) joined) (p.goal e))) (sym same) (subst (Below order (carried p (at_points p facts) e)) (sym at_goal) made_below)

        unread : (x : ℕ) → x < p.edges → carried p (at_points p (set facts (p.goal e) joined)) x ≡ carried p (at_points p facts) x → IsMet order p (set facts (p.goal e) joined) x ⊎ Contains more x
        unread x m same =
            ⊎_elim (λ (h : IsMet order p facts x). inl (met_still x m same h)) (λ (h : Contains (e ∷ waiting) x). ⊎_elim (λ (i : e ≡ x). inl (subst (λ (y : ℕ). carried p (at_points p (set facts (p.goal e) joined)) y ≡ carried p (at_points p facts) y → IsMet order p (set facts (p.goal e) joined) y) i met_here same)) (λ (i : Contains waiting x). inr (kept x i)) (contains_cases e waiting x h)) (was x m)

        by_also : (x : ℕ) → x < p.edges → p.source x ≢ p.goal e → IsMet order p (set facts (p.goal e) joined) x ⊎ Contains more x
        by_also x m o =
            ⊎_elim (λ (h : p.also x ≡ Some (p.goal e)). inr (woken.also x m h)) (λ (n : (q : ℕ) → p.also x ≡ Some q → q ≢ p.goal e). unread x m (carried-same x o n)) (also_cases (p.also x) (p.goal e))

        pub MetOrWaits-rise : MetOrWaits order p (set facts (p.goal e) joined) more
        MetOrWaits-rise x m =
            ⊎_elim (λ (s : p.source x ≡ p.goal e). inr (woken.source x m s)) (λ (o : p.source x ≢ p.goal e). by_also x m o) (cases_eq (p.source x) (p.goal e))

    -- the same from what the code's reads and calls say
    module _ (i : ℕ) (at_i : i ≡ p.goal e) (old made' joined : Fact) (read : old ≡ get_or facts i old) (seen : List Fact) (seen_is : seen ≡ facts) (made_seen : made' ≡ carried p (at_points p seen) e) (joined_is : joined ≡ order.join old made') where
      made_is : made' ≡ carried p (at_points p facts) e
      made_is = made_seen ∙ ap (λ (xs : List Fact). carried p (at_points p xs) e) seen_is

      in_i : i < length facts
      in_i = omega (arith, g_in, way.count, at_i)

      old_is : old ≡ at_points p facts (p.goal e)
      old_is = at_points-read p facts i (p.goal e) old at_i in_i read

      is_join : joined ≡ order.join (at_points p facts (p.goal e)) (carried p (at_points p facts) e)
      is_join = let o = old_is in let m = made_is in cc

      unchanged : joined ≡ old → set facts i joined ≡ facts
      unchanged same = ap (λ (x : Fact). set facts i x) (same ∙ read) ∙ set-get_or facts i old

      pub MetOrWaits-unchanged : (waiting : List ℕ) → joined ≡ old → MetOrWaits order p facts (e ∷ waiting) → MetOrWaits order p (set facts i joined) waiting
      MetOrWaits-unchanged waiting same was =
          subst (λ (xs : List Fact). MetOrWaits order p xs waiting) (sym (unchanged same)) (MetOrWaits-same waiting (sym is_join ∙ (same ∙ old_is)) was)

      pub EndsWithin-unchanged : (rows : List (List ℕ)) (waiting : List ℕ) (n : ℕ) → joined ≡ old → EndsWithin order p rows facts waiting n → EndsWithin order p rows (set facts i joined) waiting n
      EndsWithin-unchanged rows waiting n same ends =
          subst (λ (xs : List Fact). EndsWithin order p rows xs waiting n) (sym (unchanged same)) ends

      pub IsOnTheWay-visit : IsOnTheWay order p (set facts i joined)
      IsOnTheWay-visit =
          subst (λ (j : ℕ). IsOnTheWay order p (set facts j joined)) (sym at_i) (IsOnTheWay-rise joined is_join)

      pub MetOrWaits-visit : (waiting more : List ℕ) → MetOrWaits order p facts (e ∷ waiting) → ((x : ℕ) → Contains waiting x → Contains more x) → AllWait p (p.goal e) more → MetOrWaits order p (set facts i joined) more
      MetOrWaits-visit waiting more was kept woken =
          subst (λ (j : ℕ). MetOrWaits order p (set facts j joined) more) (sym at_i) (MetOrWaits-rise joined is_join waiting more was kept woken)

      pub EndsWithin-visit : (rows : List (List ℕ)) → AreReaders p p.edges rows → joined ≢ old → (waiting more : List ℕ) → length more ≤ length waiting + length (readers_of rows (p.goal e)) → (n : ℕ) → EndsWithin order p rows facts waiting n → EndsWithin order p rows (set facts i joined) more n
      EndsWithin-visit rows readers changed waiting more grown n ends =
          subst (λ (j : ℕ). EndsWithin order p rows (set facts j joined) more n) (sym at_i) (EndsWithin-rise joined is_join rows readers (λ h. changed (sym h ∙ sym old_is)) waiting n ends more grown)

      pub alike-visit : order.Alike old made'
      alike-visit =
          subst (λ (x : Fact). order.Alike x made') (sym old_is) (subst (order.Alike (at_points p facts (p.goal e))) (sym made_is) (law.alike (p.goal e) _ _ g_in old_fact made_fact))

-- an edge that is taken off the agenda is one visit less
pub EndsWithin-next : {Fact : Type 0} (order : Order Fact) (p : Problem Fact) (rows : List (List ℕ)) (facts : List Fact) (waiting : List ℕ) (e : ℕ) (rest : List ℕ) (n : ℕ) → waiting ≡ e ∷ rest → EndsWithin order p rows facts waiting n → (1 ≤ n) × EndsWithin order p rows facts rest (n - 1)
EndsWithin-next order p rows facts waiting e rest n is ends =
    let long : length waiting ≡ suc (length rest) = ap (λ (xs : List ℕ). length xs) is in
    let visits = ends.visits in
    (omega arith, record { rooms = ends.rooms; count = ends.count; rising = ends.rising; visits = omega arith })

-- where no edge waits, the facts are the least solution
pub IsLeast-settled : {Fact : Type 0} (order : Order Fact) (p : Problem Fact) (facts : List Fact) → IsOnTheWay order p facts → MetOrWaits order p facts [] → IsLeast order p (at_points p facts)
IsLeast-settled order p facts way met =
    record {
      solution = record { facts = way.are_facts; starts = way.starts; edges = λ e l. ⊎_elim (λ (h : IsMet order p facts e). h) (λ (h : Contains [] e). let none = h.1 in absurd (omega arith)) (met e l) };
      least = way.below;
    }
