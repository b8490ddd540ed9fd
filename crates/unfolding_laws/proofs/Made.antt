-- The items that are made of a trace pass and spend, at one valuation, what the trace does.
use Rattle.std.proofs.Common.{◌≡◌, ◌↔◌, inl, inr, ℕ, suc, nat_lt, ℤ, pos, ◌≤ℤ◌, List, [], ◌∷◌, ◌++◌, length, Some, refl, sym, ap, ◌∙◌, subst}
use Rattle.std.specs.List.{list_all}
use Rattle.lin_rows.specs.Linear.{Linear}
use Rattle.lin_rows.specs.declared.row.Row.{Row}
use Rattle.lin_rows.specs.Points.{whole_value, HoldsAtWhole}
use Rattle.lin_rows.specs.Transitions.{next_wholes}
use Rattle.rule_terms.specs.declared.item.Item.{Item}
use Rattle.rule_terms.specs.declared.item.Item.TheVariants.{Assume, Spend, Fresh, Call}
use Rattle.relations.specs.Scope.{is_bound, lin_bound}
use Rattle.relation_runs.specs.Leading.{variable}
use Rattle.relation_runs.specs.Trees.{variable_set}
use Rattle.relation_runs.proofs.Setting.{not_true, both_right}
use Rattle.base_relations.specs.Steps.{Does, Enters, Leaves, Trace}
use Rattle.base_relations.specs.Making.{lin_made, lins_made, with_item, with_variable, entered, left, step_made, steps_made, begun, items_made}
use Rattle.unfolding_laws.specs.inside.Makings.{Frame, Making}
use Rattle.unfolding_laws.specs.inside.Runs.{Mode, ChosenRun, ItemsRun}
use Rattle.unfolding_laws.specs.inside.Scopes.{Bound, bound_after, entered_with, AreScopedSteps}
use Rattle.unfolding_laws.proofs.Sums.{bound_some, same_some}
use Rattle.unfolding_laws.proofs.Frames.{Fits, Agrees, fits_more, lin_is, lins_are, fits_behind, agrees_behind, root_begins, inner_begins}

-- ---- what a step makes
module _ (k all : Making) (rest : Trace) where
  assume_made : (row : Row) → steps_made k (Does (Assume row) ∷ rest) ≡ Some all
      → (l : Linear) × (lin_made k.frame k.next row.lin ≡ Some l) × (steps_made (with_item k (Assume (record { lin = l }))) rest ≡ Some all)
  unfolding steps_made step_made
  assume_made row h =
      let o = bound_some (step_made k (Does (Assume row))) (λ next. steps_made next rest) all h in
      let p = bound_some (lin_made k.frame k.next row.lin) _ o.0 o.1 in
      (p.0, p.1, ap (λ (m : Making). steps_made m rest) (same_some _ o.0 p.2) ∙ o.2)

  spend_made : (n : ℕ) → steps_made k (Does (Spend n) ∷ rest) ≡ Some all → steps_made (with_item k (Spend n)) rest ≡ Some all
  unfolding steps_made step_made
  spend_made n h = h

  fresh_made : (v : ℕ) → steps_made k (Does (Fresh v) ∷ rest) ≡ Some all → steps_made (with_variable k v) rest ≡ Some all
  unfolding steps_made step_made
  fresh_made v h = h

  call_made : (node : ℕ) (args : List Linear) → steps_made k (Does (Call node args) ∷ rest) ≡ Some all
      → (ls : List Linear) × (lins_made k.frame k.next [] args ≡ Some ls) × (steps_made (with_item k (Call node ls)) rest ≡ Some all)
  unfolding steps_made step_made
  call_made node args h =
      let o = bound_some (step_made k (Does (Call node args))) (λ next. steps_made next rest) all h in
      let p = bound_some (lins_made k.frame k.next [] args) _ o.0 o.1 in
      (p.0, p.1, ap (λ (m : Making). steps_made m rest) (same_some _ o.0 p.2) ∙ o.2)

  enters_made : (args : List Linear) → steps_made k (Enters args ∷ rest) ≡ Some all
      → (ls : List Linear) × (lins_made k.frame k.next [] args ≡ Some ls) × (steps_made (entered k ls) rest ≡ Some all)
  unfolding steps_made step_made
  enters_made args h =
      let o = bound_some (step_made k (Enters args)) (λ next. steps_made next rest) all h in
      let p = bound_some (lins_made k.frame k.next [] args) _ o.0 o.1 in
      (p.0, p.1, ap (λ (m : Making). steps_made m rest) (same_some _ o.0 p.2) ∙ o.2)

  leaves_made : steps_made k (Leaves ∷ rest) ≡ Some all → steps_made (left k k.outer) rest ≡ Some all
  unfolding steps_made step_made
  leaves_made h = h

nothing_made : (k all : Making) → steps_made k [] ≡ Some all → k ≡ all
unfolding steps_made
nothing_made k all h = same_some k all h

-- ---- the rules around
abbrev pub StackFits : List Frame → List Bound → List (List ℤ) → ℕ → List ℤ → Type 0
StackFits [] [] [] n zs = Unit {0}
StackFits [] [] (r ∷ rs) n zs = ⊥
StackFits [] (b ∷ bs) rs n zs = ⊥
StackFits (f ∷ fs) [] rs n zs = ⊥
StackFits (f ∷ fs) (b ∷ bs) [] n zs = ⊥
StackFits (f ∷ fs) (b ∷ bs) (r ∷ rs) n zs = Fits f.args f.made b n × Agrees f.args f.made b r zs × StackFits fs bs rs n zs

stack_more : (fs : List Frame) (bs : List Bound) (rs : List (List ℤ)) (n : ℕ) (zs : List ℤ) → StackFits fs bs rs n zs → StackFits fs bs rs (suc n) zs
stack_more [] [] [] n zs s = tt
stack_more [] [] (r ∷ rs) n zs s = s
stack_more [] (b ∷ bs) rs n zs s = s
stack_more (f ∷ fs) [] rs n zs s = s
stack_more (f ∷ fs) (b ∷ bs) [] n zs s = s
stack_more (f ∷ fs) (b ∷ bs) (r ∷ rs) n zs s = (fits_more f.args f.made b n s.0, s.1, stack_more fs bs rs n zs s.2)

-- ---- runs of both
holds_made : (l k : Linear) (rho zs : List ℤ) → whole_value k zs ≡ whole_value l rho → HoldsAtWhole l rho ↔ HoldsAtWhole k zs
holds_made l k rho zs e =
    (λ h. record { not_negative = subst (λ z. pos 0 ≤ℤ z) (sym e) h.not_negative }, λ h. record { not_negative = subst (λ z. pos 0 ≤ℤ z) e h.not_negative })

-- items behind those that are there, which do what the trace does
pub record IsMadeRun (m : Mode) (zs : List ℤ) (k all : Making) (rho : List ℤ) (rs : List (List ℤ)) (t : Trace) : Type 0 where
  pub items : List Item
  pub behind : all.items ≡ k.items ++ items
  pub there : (c : ℕ) → ChosenRun m zs k.next rho rs t c → ItemsRun m zs items c
  pub back : (c : ℕ) → ItemsRun m zs items c → ChosenRun m zs k.next rho rs t c

no_more : (items : List Item) → items ++ [] ≡ items
no_more [] = refl
no_more (i ∷ items) = ap (λ (xs : List Item). i ∷ xs) (no_more items)

one_more : (done : List Item) (item : Item) (items : List Item) → (done ++ item ∷ []) ++ items ≡ done ++ item ∷ items
one_more [] item items = refl
one_more (d ∷ done) item items = ap (λ (xs : List Item). d ∷ xs) (one_more done item items)

module _ (nodes : List ℕ) (m : Mode) (zs : List ℤ) where
  module _ (k all : Making) (rho : List ℤ) (rs : List (List ℤ)) (rest : Trace) where
    assumed : (row : Row) (l : Linear) → whole_value l zs ≡ whole_value row.lin rho → IsMadeRun m zs (with_item k (Assume (record { lin = l }))) all rho rs rest → IsMadeRun m zs k all rho rs (Does (Assume row) ∷ rest)
    assumed row l e r = record {
      items = Assume (record { lin = l }) ∷ r.items;
      behind = r.behind ∙ one_more k.items (Assume (record { lin = l })) r.items;
      there = λ c p. elim p [ inl s ↦ inl s | inr q ↦ inr ((holds_made row.lin l rho zs e).0 q.0, r.there c q.1) ];
      back = λ c p. elim p [ inl s ↦ inl s | inr q ↦ inr ((holds_made row.lin l rho zs e).1 q.0, r.back c q.1) ];
    }

    spent : (n : ℕ) → IsMadeRun m zs (with_item k (Spend n)) all rho rs rest → IsMadeRun m zs k all rho rs (Does (Spend n) ∷ rest)
    spent n r = record {
      items = Spend n ∷ r.items;
      behind = r.behind ∙ one_more k.items (Spend n) r.items;
      there = λ c p. elim p [ inl s ↦ inl s | inr q ↦ inr (q.0, q.1, r.there q.0 q.2) ];
      back = λ c p. elim p [ inl s ↦ inl s | inr q ↦ inr (q.0, q.1, r.back q.0 q.2) ];
    }

    freshly : (v : ℕ) → IsMadeRun m zs (with_variable k v) all (variable_set rho v (variable zs k.next)) rs rest → IsMadeRun m zs k all rho rs (Does (Fresh v) ∷ rest)
    freshly v r = record {
      items = Fresh k.next ∷ r.items;
      behind = r.behind ∙ one_more k.items (Fresh k.next) r.items;
      there = λ c p. r.there c (subst (λ z. ChosenRun m zs (suc k.next) (variable_set rho v z) rs rest c) p.1 p.2);
      back = λ c p. (variable zs k.next, refl, r.back c p);
    }

    called : (node : ℕ) (args ls : List Linear) → next_wholes ls zs ≡ next_wholes args rho → IsMadeRun m zs (with_item k (Call node ls)) all rho rs rest → IsMadeRun m zs k all rho rs (Does (Call node args) ∷ rest)
    called node args ls e r = record {
      items = Call node ls ∷ r.items;
      behind = r.behind ∙ one_more k.items (Call node ls) r.items;
      there = λ c p. elim p [
        | inl s ↦ inl s
        | inr (inl s) ↦ inr (inl (subst (λ v. m.spend node v c) (sym e) s))
        | inr (inr q) ↦ inr (inr (q.0, q.1, q.2, subst (λ v. m.pass node v q.0) (sym e) q.3, r.there q.1 q.4))
      ];
      back = λ c p. elim p [
        | inl s ↦ inl s
        | inr (inl s) ↦ inr (inl (subst (λ v. m.spend node v c) e s))
        | inr (inr q) ↦ inr (inr (q.0, q.1, q.2, subst (λ v. m.pass node v q.0) e q.3, r.back q.1 q.4))
      ];
    }

    from_entered : (args ls : List Linear) → IsMadeRun m zs (entered k ls) all (next_wholes args rho) (rho ∷ rs) rest → IsMadeRun m zs k all rho rs (Enters args ∷ rest)
    from_entered args ls r = record { items = r.items; behind = r.behind; there = r.there; back = r.back }

  -- what is asked of a trace
  abbrev IsRun : Trace → Making → Type 0
  IsRun t all =
      (k : Making) (b : Bound) (bs : List Bound) (rho : List ℤ) (rs : List (List ℤ)) → AreScopedSteps nodes b bs t → Fits k.frame.args k.frame.made b k.next → Agrees k.frame.args k.frame.made b rho zs
      → StackFits k.outer bs rs k.next zs → steps_made k t ≡ Some all → IsMadeRun m zs k all rho rs t

  left_run : (t : Trace) (k all : Making) (outer : List Frame) (b : Bound) (bs : List Bound) (rho : List ℤ) (rs : List (List ℤ)) → IsRun t all → k.outer ≡ outer → AreScopedSteps nodes b bs (Leaves ∷ t)
      → Fits k.frame.args k.frame.made b k.next → Agrees k.frame.args k.frame.made b rho zs → StackFits outer bs rs k.next zs → steps_made (left k outer) t ≡ Some all → IsMadeRun m zs k all rho rs (Leaves ∷ t)
  left_run t k all [] b [] rho [] inner e scoped fits agrees stack h =
      let r = inner k b [] rho [] scoped fits agrees (subst (λ fs. StackFits fs [] [] k.next zs) (sym e) stack) h in
      record { items = r.items; behind = r.behind; there = r.there; back = r.back }
  left_run t k all [] b [] rho (r ∷ rs) inner e scoped fits agrees stack h = absurd stack
  left_run t k all [] b (a ∷ bs) rho rs inner e scoped fits agrees stack h = absurd stack
  left_run t k all (f ∷ fs) b [] rho rs inner e scoped fits agrees stack h = absurd stack
  left_run t k all (f ∷ fs) b (a ∷ bs) rho [] inner e scoped fits agrees stack h = absurd stack
  left_run t k all (f ∷ fs) b (a ∷ bs) rho (r ∷ rs) inner e scoped fits agrees stack h =
      let d = inner (left k (f ∷ fs)) a bs r rs scoped stack.0 stack.1 stack.2 h in
      record { items = d.items; behind = d.behind; there = d.there; back = d.back }

  pub made_run : (all : Making) (t : Trace) → IsRun t all
  made_run all [] k b bs rho rs scoped fits agrees stack h =
      record { items = []; behind = ap (λ (x : Making). x.items) (sym (nothing_made k all h)) ∙ sym (no_more k.items); there = λ c p. p; back = λ c p. p }
  made_run all (Does (Assume row) ∷ t) k b bs rho rs scoped fits agrees stack h =
      let o = assume_made k all t row h in
      let l = lin_is k.frame b k.next rho zs fits agrees row.lin o.0 scoped.0 o.1 in
      assumed k all rho rs t row o.0 l.value (made_run all t (with_item k (Assume (record { lin = o.0 }))) b bs rho rs scoped.2 fits agrees stack o.2)
  made_run all (Does (Spend n) ∷ t) k b bs rho rs scoped fits agrees stack h = spent k all rho rs t n (made_run all t (with_item k (Spend n)) b bs rho rs scoped.2 fits agrees stack (spend_made k all t n h))
  made_run all (Does (Fresh v) ∷ t) k b bs rho rs scoped fits agrees stack h =
      let free = not_true (is_bound b.sizes b.made v) scoped.0 in
      freshly k all rho rs t v (made_run all t (with_variable k v) (bound_after b (Fresh v)) bs (variable_set rho v (variable zs k.next)) rs scoped.2
      (fits_behind k.frame.made b k.next v free k.frame.args fits)
      (agrees_behind k.frame.made b k.next v free k.frame.args rho zs (variable zs k.next) refl fits agrees)
      (stack_more k.outer bs rs k.next zs stack) (fresh_made k all t v h))
  made_run all (Does (Call node args) ∷ t) k b bs rho rs scoped fits agrees stack h =
      let o = call_made k all t node args h in
      let ls = lins_are k.frame b k.next rho zs fits agrees args o.0 (both_right (nat_lt node (length nodes)) (list_all (λ (l : Linear). lin_bound b.sizes b.made l) args) scoped.0) o.1 in
      called k all rho rs t node args o.0 ls.values (made_run all t (with_item k (Call node o.0)) b bs rho rs scoped.2 fits agrees stack o.2)
  made_run all (Enters args ∷ t) k b bs rho rs scoped fits agrees stack h =
      let o = enters_made k all t args h in
      let ls = lins_are k.frame b k.next rho zs fits agrees args o.0 scoped.0 o.1 in
      let begins = inner_begins args o.0 k.next rho zs ls.count ls.short ls.values in
      from_entered k all rho rs t args o.0 (made_run all t (entered k o.0) (entered_with args) (b ∷ bs) (next_wholes args rho) (rho ∷ rs) scoped.1 begins.0 begins.1 (fits, agrees, stack) o.2)
  made_run all (Leaves ∷ t) k b bs rho rs scoped fits agrees stack h = left_run t k all k.outer b bs rho rs (made_run all t) refl scoped fits agrees stack (leaves_made k all t h)

-- ---- the items of a rule
abbrev pub Sized : ℕ → Bound
Sized sizes = record { sizes = sizes; made = [] }

pub items_run : (nodes : List ℕ) (m : Mode) (v tail : List ℤ) (t : Trace) (items : List Item) → AreScopedSteps nodes (Sized (length v)) [] t → items_made (length v) t ≡ Some items
    → ((c : ℕ) → ChosenRun m (v ++ tail) (length v) v [] t c ↔ ItemsRun m (v ++ tail) items c)
unfolding items_made
items_run nodes m v tail t items scoped h c =
    let o = bound_some (steps_made (begun (length v)) t) _ items h in
    let begins = root_begins v tail in
    let r = made_run nodes m (v ++ tail) o.0 t (begun (length v)) (Sized (length v)) [] v [] scoped begins.0 begins.1 tt o.1 in
    let same : r.items ≡ items = sym r.behind ∙ same_some o.0.items items o.2 in
    (λ p. subst (λ is. ItemsRun m (v ++ tail) is c) same (r.there c p), λ p. r.back c (subst (λ is. ItemsRun m (v ++ tail) is c) (sym same) p))
