-- Each step of a walk keeps what the walk keeps, and leaves less to do.
use Rattle.std.proofs.Common.{ℕ, suc, ◌≡◌, ◌+◌, ◌<◌, ◌≤◌, List, [], ◌∷◌, ◌++◌, length, add-one, refl, sym, ◌∙◌, subst, arith, ◌⊎◌, inl, inr, ⊎_elim}
use Rattle.std.specs.Prelude.{All, Contains, max, Option, Some, None, slice_get, slice_set, replicate}
use Rattle.std.proofs.lemmas.Bool.{cases_order}
use Rattle.std.proofs.lemmas.List.{length-append, length-set, length-replicate}
use Rattle.std.proofs.lemmas.List.Elements.{All-nil, All-cons, All-head, All-tail, All-append, All-weaker}
use Rattle.std.proofs.lemmas.Option.{slice_get_within}
use Rattle.frames.specs.declared.value.Value.{Value}
use Rattle.frames.specs.declared.value.Value.TheVariants.{Int, Long, Pad, Null, Ref}
use Rattle.frames.specs.Heap.{Cells}
use Rattle.entries.specs.Entry.{Leads, refers, Reaches}
use Rattle.path_length.specs.declared.walk.Mark.{Mark}
use Rattle.path_length.specs.declared.walk.Mark.TheVariants.{New, Open, Done}
use Rattle.path_length.specs.declared.walk.Visit.{Visit}
use Rattle.path_length.specs.Lengths.{HasChain, ReachesCycle, HoldsReached, IsPathLength}
use Rattle.path_length.specs.inside.Walking.{values_of, next_value, IsPassed, length_in, IsDone, IsSeen, IsVisit, IsVisited, AllLead, count_new, undone, IsWalk, work}
use Rattle.path_length.proofs.Chains.{seen_more, contains_at, at_contains, none_left, held_below, lead_on, reach_on, acyclic_from}
use Rattle.path_length.proofs.Marking.{get_set, get_same, count_set, count_taken, all_new, some_new, count_all, work_set, work_taken, visits_pushed}

-- ---- the visit on top
front : (P : Visit → Type 0) (vs : List Visit) (v : Visit) → All P (vs ++ v ∷ []) → All P vs
front P [] v h = All-nil P
front P (u ∷ vs) v h = All-cons P u vs (All-head P u (vs ++ v ∷ []) h) (front P vs v (All-tail P u (vs ++ v ∷ []) h))

top : (P : Visit → Type 0) (vs : List Visit) (v : Visit) → All P (vs ++ v ∷ []) → P v
top P [] v h = All-head P v [] h
top P (u ∷ vs) v h = top P vs v (All-tail P u (vs ++ v ∷ []) h)

push : (P : Visit → Type 0) (vs : List Visit) (v : Visit) → All P vs → P v → All P (vs ++ v ∷ [])
push P vs v h p = All-append P vs (v ∷ []) h (All-cons P v [] p (All-nil P))

lead_front : (heap : Cells) (vs : List Visit) (v : Visit) → AllLead heap (vs ++ v ∷ []) → AllLead heap vs
lead_front heap [] v h = tt
lead_front heap (u ∷ vs) v h = (front (λ w. Leads heap u.node w.node) vs v h.0, lead_front heap vs v h.1)

lead_top : (heap : Cells) (vs : List Visit) (v : Visit) → AllLead heap (vs ++ v ∷ []) → All (λ u. Leads heap u.node v.node) vs
lead_top heap [] v h = All-nil (λ u. Leads heap u.node v.node)
lead_top heap (u ∷ vs) v h = All-cons (λ w. Leads heap w.node v.node) u vs (top (λ w. Leads heap u.node w.node) vs v h.0) (lead_top heap vs v h.1)

lead_push : (heap : Cells) (vs : List Visit) (v : Visit) → AllLead heap vs → All (λ u. Leads heap u.node v.node) vs → AllLead heap (vs ++ v ∷ [])
lead_push heap [] v h g = (All-nil (λ u. Leads heap v.node u.node), tt)
lead_push heap (u ∷ vs) v h g =
    (push (λ w. Leads heap u.node w.node) vs v h.0 (All-head (λ w. Leads heap w.node v.node) u vs g), lead_push heap vs v h.1 (All-tail (λ w. Leads heap w.node v.node) u vs g))

visited_left : (b : ℕ) (vs ws : List Visit) → IsVisited b vs → IsVisited b (vs ++ ws)
visited_left b [] ws h = absurd h
visited_left b (v ∷ vs) ws h = ⊎_elim inl (λ g. inr (visited_left b vs ws g)) h

visited_push : (b : ℕ) (vs : List Visit) (v : Visit) → v.node ≡ b → IsVisited b (vs ++ v ∷ [])
visited_push b [] v e = inl e
visited_push b (u ∷ vs) v e = inr (visited_push b vs v e)

visited_cases : (b : ℕ) (vs : List Visit) (v : Visit) → IsVisited b (vs ++ v ∷ []) → (v.node ≡ b) ⊎ IsVisited b vs
visited_cases b [] v h = ⊎_elim inl (λ g. absurd g) h
visited_cases b (u ∷ vs) v h = ⊎_elim (λ e. inr (inl e)) (λ g. ⊎_elim inl (λ k. inr (inr k)) (visited_cases b vs v g)) h

longer : (vs : List Visit) (v : Visit) → length (vs ++ v ∷ []) ≡ suc (length vs)
longer vs v = omega (arith, length-append vs (v ∷ []))

-- ---- marks
opened : (m : Mark) (n : ℕ) → m ≡ Open → m ≡ Done n → ⊥
opened m n e f = absurd (cc)

not_both : (o : Option Mark) (m n : Mark) → o ≡ Some m → o ≡ Some n → m ≡ n
not_both o m n e f = cc

done_number : (m n : ℕ) → Done m ≡ Done n → m ≡ n
done_number m n e = cc

-- ---- an object is left
within : (heap : Cells) (root : ℕ) (v : Visit) → HoldsReached heap (Ref root) → IsVisit heap root v → v.node < length heap
within heap root v held o = held_below heap v.node (held v.node o.reached)

all_seen : (heap : Cells) (root : ℕ) (v : Visit) → IsVisit heap root v → next_value heap v ≡ None → (value : Value) → Contains (values_of heap v.node) value → IsSeen heap v.longest value
all_seen heap root v o e value h =
    let w = at_contains (values_of heap v.node) value h in
    o.seen w.0 value (omega (arith, slice_get_within (values_of heap v.node) w.0 value w.1, none_left (values_of heap v.node) v.next e)) w.1

done_now : (heap : Cells) (root : ℕ) (v : Visit) → IsVisit heap root v → next_value heap v ≡ None → IsDone heap v.node (suc v.longest)
done_now heap root v o e = record {
  longest = record {
    chain = o.chain;
    no_longer = λ c. ⊎_elim (λ z. absurd (omega (arith, z))) (λ w. (all_seen heap root v o e w.0 w.1).no_longer w.2) c;
  };
  acyclic = acyclic_from heap v.node (λ c h. (all_seen heap root v o e (Ref c) h).acyclic);
}

done_as : (heap : Cells) (a b m n : ℕ) → IsDone heap a m → b ≡ a → n ≡ m → IsDone heap b n
done_as heap a b m n d e f = subst (λ x. IsDone heap x n) (sym e) (subst (IsDone heap a) (sym f) d)

left_suc : (heap : Cells) (root : ℕ) (marks : List Mark) (vs : List Visit) (v : Visit) → HoldsReached heap (Ref root) → IsWalk heap root marks (vs ++ v ∷ []) → next_value heap v ≡ None → IsWalk heap root (slice_set marks v.node (Done (suc v.longest))) vs
left_suc heap root marks vs v held w e =
    let m : Mark = Done (suc v.longest) in
    let o = top (IsVisit heap root) vs v w.each in
    let d = done_now heap root v o e in
    let there : v.node < length marks = omega (arith, within heap root v held o, w.count) in
    let fewer : count_new (slice_set marks v.node m) ≤ count_new marks = count_set marks v.node m tt in
    let low : v.longest + (count_new marks + length (vs ++ v ∷ [])) ≤ length heap = top (λ u. u.longest + undone marks (vs ++ v ∷ []) ≤ length heap) vs v w.short in
    let more = longer vs v in
    record {
      count = length-set marks v.node m ∙ w.count;
      done = λ b n f. ⊎_elim (λ p. done_as heap v.node b (suc v.longest) n d p.0 (done_number n (suc v.longest) p.1)) (λ g. w.done b n g) (get_set marks v.node m b (Done n) f);
      low = λ b n f. ⊎_elim (λ p. let s = done_number n (suc v.longest) p.1 in omega (arith, s, fewer, low, more)) (λ g. let old = w.low b n g in omega (arith, old, fewer, more)) (get_set marks v.node m b (Done n) f);
      visited = λ b f. ⊎_elim (λ p. absurd (opened m (suc v.longest) (sym p.1) refl))
          (λ g. ⊎_elim (λ same. let now = get_same marks v.node m there in absurd (opened Open (suc v.longest) refl (not_both (slice_get (slice_set marks v.node m) b) Open m f (subst (λ x. slice_get (slice_set marks v.node m) x ≡ Some m) same now)))) (λ k. k) (visited_cases b vs v (w.visited b g)))
          (get_set marks v.node m b Open f);
      each = front (IsVisit heap root) vs v w.each;
      short = All-weaker (λ u. u.longest + undone marks (vs ++ v ∷ []) ≤ length heap) (λ u. u.longest + undone (slice_set marks v.node m) vs ≤ length heap) (λ u h. omega (arith, h, fewer, more)) vs (front (λ u. u.longest + undone marks (vs ++ v ∷ []) ≤ length heap) vs v w.short);
      lead = lead_front heap vs v w.lead;
      begun = λ f. ⊎_elim (λ p. absurd (cc (p.1))) (λ g. w.begun g) (get_set marks v.node m root New f);
    }

pub left : (heap : Cells) (root : ℕ) (marks : List Mark) (vs : List Visit) (v : Visit) → HoldsReached heap (Ref root) → IsWalk heap root marks (vs ++ v ∷ []) → next_value heap v ≡ None → IsWalk heap root (slice_set marks v.node (Done (v.longest + 1))) vs
left heap root marks vs v held w e = subst (λ k. IsWalk heap root (slice_set marks v.node (Done k)) vs) (sym (add-one v.longest)) (left_suc heap root marks vs v held w e)

-- what is needed of a visit in code
pub low_enough : (heap : Cells) (root : ℕ) (marks : List Mark) (vs : List Visit) (v : Visit) → IsWalk heap root marks (vs ++ v ∷ []) → v.longest + 1 ≤ length heap
low_enough heap root marks vs v w =
    let low : v.longest + (count_new marks + length (vs ++ v ∷ [])) ≤ length heap = top (λ u. u.longest + undone marks (vs ++ v ∷ []) ≤ length heap) vs v w.short in
    omega (arith, low, longer vs v)

pub node_within : (heap : Cells) (root : ℕ) (marks : List Mark) (vs : List Visit) (v : Visit) → HoldsReached heap (Ref root) → IsWalk heap root marks (vs ++ v ∷ []) → v.node < length marks
node_within heap root marks vs v held w = omega (arith, within heap root v held (top (IsVisit heap root) vs v w.each), w.count)

pub next_within : (heap : Cells) (root : ℕ) (marks : List Mark) (vs : List Visit) (v : Visit) (b : ℕ) → HoldsReached heap (Ref root) → IsWalk heap root marks (vs ++ v ∷ []) → next_value heap v ≡ Some (Ref b) → b < length marks
next_within heap root marks vs v b held w e =
    let o = top (IsVisit heap root) vs v w.each in
    let below = held_below heap b (held b (inr (reach_on heap root v.node b o.reached (contains_at (values_of heap v.node) v.next (Ref b) e)))) in
    omega (arith, below, w.count)

-- ---- a value is passed
record IsPassing (heap : Cells) (marks : List Mark) (vs : List Visit) (v : Visit) (value : Value) (n : ℕ) : Type 0 where
  more : v.longest ≤ n
  seen : IsSeen heap n value
  short : n + undone marks (vs ++ v ∷ []) ≤ length heap
  chain : HasChain heap (suc n) (Ref v.node)

greater : (a b : ℕ) → (max a b ≡ a) ⊎ (max a b ≡ b)
greater a b = ⊎_elim (λ e. inl (omega (arith, e))) (λ o. ⊎_elim (λ l. inr (omega (arith, l))) (λ l. inl (omega (arith, l))) o) (cases_order a b)

passing_none : (heap : Cells) (root : ℕ) (marks : List Mark) (vs : List Visit) (v : Visit) (value : Value) (n : ℕ) → IsWalk heap root marks (vs ++ v ∷ []) → n ≡ v.longest → IsSeen heap v.longest value → IsPassing heap marks vs v value n
passing_none heap root marks vs v value n w e s =
    let o = top (IsVisit heap root) vs v w.each in
    let low : v.longest + undone marks (vs ++ v ∷ []) ≤ length heap = top (λ u. u.longest + undone marks (vs ++ v ∷ []) ≤ length heap) vs v w.short in
    record {
      more = omega (arith, e);
      seen = subst (λ k. IsSeen heap k value) (sym e) s;
      short = subst (λ k. k + undone marks (vs ++ v ∷ []) ≤ length heap) (sym e) low;
      chain = subst (λ k. HasChain heap (suc k) (Ref v.node)) (sym e) o.chain;
    }

passing_done : (heap : Cells) (root : ℕ) (marks : List Mark) (vs : List Visit) (v : Visit) (b k n : ℕ) → IsWalk heap root marks (vs ++ v ∷ []) → next_value heap v ≡ Some (Ref b) → slice_get marks b ≡ Some (Done k) → n ≡ max v.longest k → IsPassing heap marks vs v (Ref b) n
passing_done heap root marks vs v b k n w at e is =
    let o = top (IsVisit heap root) vs v w.each in
    let d = w.done b k e in
    let low : v.longest + undone marks (vs ++ v ∷ []) ≤ length heap = top (λ u. u.longest + undone marks (vs ++ v ∷ []) ≤ length heap) vs v w.short in
    let other : k + undone marks (vs ++ v ∷ []) ≤ length heap = w.low b k e in
    let P : ℕ → Type 0 = λ x. HasChain heap (suc x) (Ref v.node) in
    let S : ℕ → Type 0 = λ x. x + undone marks (vs ++ v ∷ []) ≤ length heap in
    record {
      more = omega (arith, is);
      seen = seen_more heap k n (Ref b) (omega (arith, is)) (record { no_longer = d.longest.no_longer; acyclic = d.acyclic });
      short = ⊎_elim (λ f. subst S (sym (is ∙ f)) low) (λ f. subst S (sym (is ∙ f)) other) (greater v.longest k);
      chain = ⊎_elim (λ f. subst P (sym (is ∙ f)) o.chain) (λ f. subst P (sym (is ∙ f)) (inr (Ref b, contains_at (values_of heap v.node) v.next (Ref b) at, d.longest.chain))) (greater v.longest k);
    }

passing : (heap : Cells) (root : ℕ) (marks : List Mark) (vs : List Visit) (v : Visit) (value : Value) (n : ℕ) → IsWalk heap root marks (vs ++ v ∷ []) → next_value heap v ≡ Some value → IsPassed marks v.longest value n → IsPassing heap marks vs v value n
passing heap root marks vs v (Int z) n w at p = passing_none heap root marks vs v (Int z) n w p (record { no_longer = λ c. c; acyclic = tt })
passing heap root marks vs v (Long z) n w at p = passing_none heap root marks vs v (Long z) n w p (record { no_longer = λ c. c; acyclic = tt })
passing heap root marks vs v Pad n w at p = passing_none heap root marks vs v Pad n w p (record { no_longer = λ c. c; acyclic = tt })
passing heap root marks vs v Null n w at p = passing_none heap root marks vs v Null n w p (record { no_longer = λ c. c; acyclic = tt })
passing heap root marks vs v (Ref b) n w at p = passing_done heap root marks vs v b p.0 n w at p.1 p.2

last_or : (i n : ℕ) → i < n + 1 → (i ≡ n) ⊎ (i < n)
last_or i n h = ⊎_elim inl (λ o. ⊎_elim inr (λ l. absurd (omega (arith, l, h))) o) (cases_order i n)

same_value : (o : Option Value) (x y : Value) → o ≡ Some x → o ≡ Some y → x ≡ y
same_value o x y e f = cc

visit_behind : (heap : Cells) (root : ℕ) (marks : List Mark) (vs : List Visit) (v : Visit) (value : Value) (n : ℕ) → IsVisit heap root v → next_value heap v ≡ Some value → IsPassing heap marks vs v value n → IsVisit heap root (record { node = v.node; next = v.next + 1; longest = n })
visit_behind heap root marks vs v value n o at p = record {
  reached = o.reached;
  chain = p.chain;
  seen = λ i x h e. ⊎_elim (λ same. subst (IsSeen heap n) (same_value (slice_get (values_of heap v.node) v.next) value x at (subst (λ j. slice_get (values_of heap v.node) j ≡ Some x) same e)) p.seen)
      (λ l. seen_more heap v.longest n x p.more (o.seen i x l e)) (last_or i v.next h);
}

pub passed : (heap : Cells) (root : ℕ) (marks : List Mark) (vs : List Visit) (v : Visit) (value : Value) (n : ℕ) → IsWalk heap root marks (vs ++ v ∷ []) → next_value heap v ≡ Some value → IsPassed marks v.longest value n
    → IsWalk heap root marks (vs ++ record { node = v.node; next = v.next + 1; longest = n } ∷ [])
passed heap root marks vs v value n w at is =
    let p = passing heap root marks vs v value n w at is in
    let u : Visit = record { node = v.node; next = v.next + 1; longest = n } in
    let same : length (vs ++ v ∷ []) ≡ length (vs ++ u ∷ []) = longer vs v ∙ sym (longer vs u) in
    record {
      count = w.count;
      done = w.done;
      low = λ b k e. subst (λ l. k + (count_new marks + l) ≤ length heap) same (w.low b k e);
      visited = λ b e. ⊎_elim (λ f. visited_push b vs u f) (λ g. visited_left b vs (u ∷ []) g) (visited_cases b vs v (w.visited b e));
      each = push (IsVisit heap root) vs u (front (IsVisit heap root) vs v w.each) (visit_behind heap root marks vs v value n (top (IsVisit heap root) vs v w.each) at p);
      short = subst (λ l. All (λ x. x.longest + (count_new marks + l) ≤ length heap) (vs ++ u ∷ [])) same
          (push (λ x. x.longest + undone marks (vs ++ v ∷ []) ≤ length heap) vs u (front (λ x. x.longest + undone marks (vs ++ v ∷ []) ≤ length heap) vs v w.short) p.short);
      lead = lead_push heap vs u (lead_front heap vs v w.lead) (lead_top heap vs v w.lead);
      begun = w.begun;
    }

-- ---- a new object is entered
pub entered : (heap : Cells) (root : ℕ) (marks : List Mark) (vs : List Visit) (v : Visit) (b : ℕ) → IsWalk heap root marks (vs ++ v ∷ []) → next_value heap v ≡ Some (Ref b) → slice_get marks b ≡ Some New
    → IsWalk heap root (slice_set marks b Open) ((vs ++ v ∷ []) ++ record { node = b; next = 0; longest = 0 } ∷ [])
entered heap root marks vs v b w at e =
    let us = vs ++ v ∷ [] in
    let u : Visit = record { node = b; next = 0; longest = 0 } in
    let o = top (IsVisit heap root) vs v w.each in
    let edge = contains_at (values_of heap v.node) v.next (Ref b) at in
    let one : suc (count_new (slice_set marks b Open)) ≡ count_new marks = count_taken marks b Open tt e in
    let more = longer us u in
    let same : undone marks us ≡ undone (slice_set marks b Open) (us ++ u ∷ []) = omega (arith, one, more) in
    let low : v.longest + undone marks us ≤ length heap = top (λ x. x.longest + undone marks us ≤ length heap) vs v w.short in
    record {
      count = length-set marks b Open ∙ w.count;
      done = λ c n f. ⊎_elim (λ p. absurd (opened (Done n) n p.1 refl)) (λ g. w.done c n g) (get_set marks b Open c (Done n) f);
      low = λ c n f. ⊎_elim (λ p. absurd (opened (Done n) n p.1 refl)) (λ g. subst (λ l. n + l ≤ length heap) same (w.low c n g)) (get_set marks b Open c (Done n) f);
      visited = λ c f. ⊎_elim (λ p. visited_push c us u (sym p.0)) (λ g. visited_left c us (u ∷ []) (w.visited c g)) (get_set marks b Open c Open f);
      each = push (IsVisit heap root) us u w.each (record { reached = inr (reach_on heap root v.node b o.reached edge); chain = inl refl; seen = λ i x h f. absurd (omega (arith, h)) });
      short = subst (λ l. All (λ x. x.longest + l ≤ length heap) (us ++ u ∷ [])) same (push (λ x. x.longest + undone marks us ≤ length heap) us u w.short (omega (arith, low)));
      lead = lead_push heap us u w.lead (push (λ x. Leads heap x.node b) vs v (All-weaker (λ x. Leads heap x.node v.node) (λ x. Leads heap x.node b) (λ x l. lead_on heap b l edge) vs (lead_top heap vs v w.lead)) (refers edge));
      begun = λ f. ⊎_elim (λ p. absurd (cc (p.1))) (λ g. w.begun g) (get_set marks b Open root New f);
    }

-- ---- a cycle is found
leads_from : (heap : Cells) (root a b : ℕ) (vs : List Visit) → IsVisited b vs → All (IsVisit heap root) vs → All (λ u. Leads heap u.node a) vs → Reaches heap root b × Leads heap b a
leads_from heap root a b [] h g l = absurd h
leads_from heap root a b (v ∷ vs) h g l =
    ⊎_elim (λ e. (subst (Reaches heap root) e (All-head (IsVisit heap root) v vs g).reached, subst (λ x. Leads heap x a) e (All-head (λ u. Leads heap u.node a) v vs l)))
    (λ k. leads_from heap root a b vs k (All-tail (IsVisit heap root) v vs g) (All-tail (λ u. Leads heap u.node a) v vs l)) h

pub cycle_found : (heap : Cells) (root : ℕ) (marks : List Mark) (vs : List Visit) (v : Visit) (b : ℕ) → IsWalk heap root marks (vs ++ v ∷ []) → next_value heap v ≡ Some (Ref b) → slice_get marks b ≡ Some Open → ReachesCycle heap (Ref root)
cycle_found heap root marks vs v b w at e =
    let edge = contains_at (values_of heap v.node) v.next (Ref b) at in
    ⊎_elim (λ same. (b, subst (Reaches heap root) same (top (IsVisit heap root) vs v w.each).reached, refers (subst (λ x. Contains (values_of heap x) (Ref b)) same edge)))
    (λ k. let l = leads_from heap root v.node b vs k (front (IsVisit heap root) vs v w.each) (lead_top heap vs v w.lead) in (b, l.0, lead_on heap b l.1 edge))
    (visited_cases b vs v (w.visited b e))

-- ---- the beginning and the end
pub begun_at : (heap : Cells) (root : ℕ) → root < length heap → IsWalk heap root (slice_set (replicate (length heap) New) root Open) (record { node = root; next = 0; longest = 0 } ∷ [])
begun_at heap root h =
    let ms = replicate (length heap) New in
    let fresh : slice_get ms root ≡ Some New = some_new (length heap) root h in
    let one : suc (count_new (slice_set ms root Open)) ≡ length heap = count_taken ms root Open tt fresh ∙ count_all (length heap) in
    let v : Visit = record { node = root; next = 0; longest = 0 } in
    let none_done : (b n : ℕ) → slice_get (slice_set ms root Open) b ≡ Some (Done n) → ⊥ = λ b n f. ⊎_elim (λ p. opened (Done n) n p.1 refl) (λ g. new_done n (all_new (length heap) b (Done n) g)) (get_set ms root Open b (Done n) f) in
    record {
      count = length-set ms root Open ∙ length-replicate (length heap) New;
      done = λ b n f. absurd (none_done b n f);
      low = λ b n f. absurd (none_done b n f);
      visited = λ b f. ⊎_elim (λ p. inl (sym p.0)) (λ g. absurd (new_open (all_new (length heap) b Open g))) (get_set ms root Open b Open f);
      each = All-cons (IsVisit heap root) v [] (record { reached = inl refl; chain = inl refl; seen = λ i x l f. absurd (omega (arith, l)) }) (All-nil (IsVisit heap root));
      short = All-cons (λ u. u.longest + undone (slice_set ms root Open) (v ∷ []) ≤ length heap) v [] (omega (arith, one)) (All-nil (λ u. u.longest + undone (slice_set ms root Open) (v ∷ []) ≤ length heap));
      lead = (All-nil (λ u. Leads heap root u.node), tt);
      begun = λ f. ⊎_elim (λ p. new_open (sym p.1)) (λ g. new_open (not_both (slice_get (slice_set ms root Open) root) Open New (get_same ms root Open (omega (arith, h, length-replicate (length heap) New))) f)) (get_set ms root Open root New f);
    }
  where
    new_done : (n : ℕ) → Done n ≡ New → ⊥
    new_done n e = absurd (cc)

    new_open : Open ≡ New → ⊥
    new_open e = absurd (cc)

ended_by : (heap : Cells) (root : ℕ) (marks : List Mark) (o : Option Mark) → root < length heap → IsWalk heap root marks [] → slice_get marks root ≡ o → IsPathLength heap (Ref root) (length_in o)
ended_by heap root marks None h w e = absurd (omega (arith, none_left marks root e, w.count, h))
ended_by heap root marks (Some New) h w e = absurd (w.begun e)
ended_by heap root marks (Some Open) h w e = absurd (w.visited root e)
ended_by heap root marks (Some (Done n)) h w e = let d = w.done root n e in (d.longest, d.acyclic)

pub ended : (heap : Cells) (root : ℕ) (marks : List Mark) → root < length heap → IsWalk heap root marks [] → IsPathLength heap (Ref root) (length_in (slice_get marks root))
ended heap root marks h w = ended_by heap root marks (slice_get marks root) h w refl

-- ---- less is left to do
pub left_falls : (heap : Cells) (marks : List Mark) (vs : List Visit) (v : Visit) (n : ℕ) → work heap (slice_set marks v.node (Done n)) vs < work heap marks (vs ++ v ∷ [])
left_falls heap marks vs v n = omega (arith, work_set heap 0 marks v.node (Done n) tt, visits_pushed heap vs v)

pub passed_falls : (heap : Cells) (marks : List Mark) (vs : List Visit) (v : Visit) (value : Value) (n : ℕ) → next_value heap v ≡ Some value → work heap marks (vs ++ record { node = v.node; next = v.next + 1; longest = n } ∷ []) < work heap marks (vs ++ v ∷ [])
passed_falls heap marks vs v value n at =
    omega (arith, visits_pushed heap vs v, visits_pushed heap vs (record { node = v.node; next = v.next + 1; longest = n }), slice_get_within (values_of heap v.node) v.next value at)

pub entered_falls : (heap : Cells) (marks : List Mark) (vs : List Visit) (v : Visit) (b : ℕ) → slice_get marks b ≡ Some New → work heap (slice_set marks b Open) ((vs ++ v ∷ []) ++ record { node = b; next = 0; longest = 0 } ∷ []) < work heap marks (vs ++ v ∷ [])
entered_falls heap marks vs v b e =
    omega (arith, work_taken heap 0 marks b b Open (omega arith) tt e, visits_pushed heap (vs ++ v ∷ []) (record { node = b; next = 0; longest = 0 }))

-- the same of what code makes
pub walk_at : (heap : Cells) (root : ℕ) (ms ns : List Mark) (vs us : List Visit) → IsWalk heap root ns us → ms ≡ ns → vs ≡ us → IsWalk heap root ms vs
walk_at heap root ms ns vs us w e f = subst (λ xs. IsWalk heap root ms xs) (sym f) (subst (λ xs. IsWalk heap root xs us) (sym e) w)

pub work_at : (heap : Cells) (ms ns : List Mark) (vs us : List Visit) (k : ℕ) → work heap ns us < k → ms ≡ ns → vs ≡ us → work heap ms vs < k
work_at heap ms ns vs us k h e f = subst (λ xs. work heap ms xs < k) (sym f) (subst (λ xs. work heap xs us < k) (sym e) h)
