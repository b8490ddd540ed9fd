-- Steps of the loop that makes items.
use Rattle.std.proofs.Common.{◌≡◌, ℕ, suc, ◌+◌, ◌<◌, ◌≤◌, List, [], ◌∷◌, ◌++◌, length, map, Option, Some, None, refl, sym, ap, ◌∙◌, arith, get_or, drop}
use Rattle.std.proofs.lemmas.List.{drop_more, drop_all}
use Rattle.q128.specs.Rule.{◌>>=◌}
use Rattle.lin_rows.specs.Linear.{Linear}
use Rattle.rule_terms.specs.declared.item.Item.{Item}
use Rattle.rule_terms.specs.declared.item.Item.TheVariants.{Assume, Spend, Fresh, Call}
use Rattle.base_relations.specs.declared.making.Frame.{Frame}
use Rattle.base_relations.specs.declared.making.Making.{Making}
use Rattle.base_relations.specs.declared.part.Done.{Done}
use Rattle.base_relations.specs.Steps.{Step, Does, Enters, Leaves}
use Rattle.base_relations.specs.Limits.{fresh_at}
use Rattle.base_relations.specs.Making.{lin_made, lins_made, with_item, with_variable, entered, left, step_made, steps_made}
use Rattle.base_relations.specs.inside.Trails.{done_step}

steps_more : (m : Making) (parts : List Done) (i : ℕ) (d : Done) → i < length parts → steps_made m (map done_step (drop i parts)) ≡ (step_made m (done_step (get_or parts i d)) >>= λ next. steps_made next (map done_step (drop (i + 1) parts)))
unfolding steps_made
steps_more m parts i d h = rw (drop_more parts i d h) refl

pub steps_some : (m next : Making) (parts : List Done) (i : ℕ) (d : Done) (all : Option Making) → i < length parts → d ≡ get_or parts i d → step_made m (done_step d) ≡ Some next
    → steps_made m (map done_step (drop i parts)) ≡ all → steps_made next (map done_step (drop (i + 1) parts)) ≡ all
steps_some m next parts i d all h is was f =
    ap (λ s. s >>= λ n. steps_made n (map done_step (drop (i + 1) parts))) (sym (ap (λ (e : Done). step_made m (done_step e)) (sym is) ∙ was)) ∙ sym (steps_more m parts i d h) ∙ f

pub steps_none : (m : Making) (parts : List Done) (i : ℕ) (d : Done) (all : Option Making) → i < length parts → d ≡ get_or parts i d → step_made m (done_step d) ≡ None
    → steps_made m (map done_step (drop i parts)) ≡ all → all ≡ None
steps_none m parts i d all h is was f =
    sym f ∙ steps_more m parts i d h ∙ ap (λ s. s >>= λ n. steps_made n (map done_step (drop (i + 1) parts))) (ap (λ (e : Done). step_made m (done_step e)) (sym is) ∙ was)

no_steps : (m : Making) → steps_made m [] ≡ Some m
unfolding steps_made
no_steps m = refl

pub steps_end : (m : Making) (parts : List Done) (i : ℕ) (all : Option Making) → length parts ≤ i → steps_made m (map done_step (drop i parts)) ≡ all → all ≡ Some m
steps_end m parts i all h f = sym f ∙ ap (λ (ps : List Done). steps_made m (map done_step ps)) (drop_all i parts h) ∙ no_steps m

-- how many variables there are behind a step
by_lin : (o : Option Linear) (f : Linear → Making) (n : Making) (k : ℕ) → ((l : Linear) → (f l).next ≡ k) → (o >>= λ l. Some (f l)) ≡ Some n → n.next ≡ k
by_lin None f n k same e = absurd (let g : ⊥ = cc in g)
by_lin (Some l) f n k same e = let g : n ≡ f l = cc in ap (λ (m : Making). m.next) g ∙ same l

by_lins : (o : Option (List Linear)) (f : List Linear → Making) (n : Making) (k : ℕ) → ((l : List Linear) → (f l).next ≡ k) → (o >>= λ l. Some (f l)) ≡ Some n → n.next ≡ k
by_lins None f n k same e = absurd (let g : ⊥ = cc in g)
by_lins (Some l) f n k same e = let g : n ≡ f l = cc in ap (λ (m : Making). m.next) g ∙ same l

left_next : (m : Making) (frames : List Frame) → (left m frames).next ≡ m.next
left_next m [] = refl
left_next m (frame ∷ frames) = refl

is_now : (a n : Making) → Some a ≡ Some n → n.next ≡ a.next
is_now a n e = let g : n ≡ a = cc in ap (λ (m : Making). m.next) g

next_step : (m n : Making) (s : Step) → step_made m s ≡ Some n → n.next ≡ fresh_at s + m.next
unfolding step_made
next_step m n (Does (Assume row)) e = by_lin (lin_made m.frame m.next row.lin) (λ l. with_item m (Assume (record { lin = l }))) n (0 + m.next) (λ l. omega arith) e
next_step m n (Does (Spend k)) e = is_now (with_item m (Spend k)) n e ∙ omega arith
next_step m n (Does (Fresh v)) e = is_now (with_variable m v) n e ∙ omega arith
next_step m n (Does (Call node args)) e = by_lins (lins_made m.frame m.next [] args) (λ ls. with_item m (Call node ls)) n (0 + m.next) (λ l. omega arith) e
next_step m n (Enters args) e = by_lins (lins_made m.frame m.next [] args) (λ ls. entered m ls) n (0 + m.next) (λ l. omega arith) e
next_step m n Leaves e = is_now (left m m.outer) n e ∙ left_next m m.outer ∙ omega arith

pub next_is : (m n : Making) (d : Done) → step_made m (done_step d) ≡ Some n → n.next ≡ fresh_at (done_step d) + m.next
next_is m n d e = next_step m n (done_step d) e
