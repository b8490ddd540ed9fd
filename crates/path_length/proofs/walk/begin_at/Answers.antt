use Rattle.std.proofs.Common.{ℕ, ◌≡◌, ◌<◌, List, [], ◌∷◌, ◌++◌, length, inl, refl, ◌∙◌, ap, arith}
use Rattle.std.specs.Prelude.{slice_set, replicate}
use Rattle.std.proofs.lemmas.List.{length-replicate}
use Rattle.path_length.specs.declared.walk.Mark.{Mark}
use Rattle.path_length.specs.declared.walk.Mark.TheVariants.{New, Open}
use Rattle.path_length.specs.declared.walk.Visit.{Visit}
use Rattle.path_length.proofs.Chains.{held_below}
use Rattle.path_length.proofs.Steps.{begun_at, walk_at}
use Rattle.path_length.proofs.walk.begin_at.Goals as goal

as_many : (ms : List Mark) (k n r : ℕ) → ms ≡ replicate k New → k ≡ n → r < n → r < length ms
as_many ms k n r e f h = omega (arith, ap length e, length-replicate k New, f, h)

pub enter-requires : goal.enter-requires
enter-requires c = as_many c.in_ok-walk.walk.marks.items c.len.result (length c.args.heap.now) c.args.root c.in_ok-walk.ensures.marks c.len.ensures (held_below c.args.heap.now c.args.root (c.requires c.args.root (inl refl)))

pub returns : goal.returns
returns c =
    let v : Visit = record { node = c.args.root; next = 0; longest = 0 } in
    walk_at c.args.heap.now c.args.root c.enter.new.walk.marks.items (slice_set (replicate (length c.args.heap.now) New) c.args.root Open) c.enter.new.walk.visits.items (v ∷ [])
    (begun_at c.args.heap.now c.args.root (held_below c.args.heap.now c.args.root (c.requires c.args.root (inl refl))))
    (c.in_ok-enter.ensures.marks ∙ ap (λ ms. slice_set ms c.args.root Open) (c.in_ok-walk.ensures.marks ∙ ap (λ k. replicate k New) c.len.ensures))
    (c.in_ok-enter.ensures.visits ∙ ap (λ vs. vs ++ v ∷ []) c.in_ok-walk.ensures.visits)
