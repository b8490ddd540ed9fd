use Rattle.std.proofs.Common.{List, ap, ℤ, ◌∙◌}
use Rattle.std.specs.Prelude.{not, pos, ◌+ℤ◌}
use Rattle.std.specs.List.{list_any}
use Rattle.code_blocks.specs.Placing.{is_marked_at}
use Rattle.code_blocks.proofs.Sets.{bad_marked}
use Rattle.code_blocks.proofs.following.has_bad_target.Goals as goal

pub returns : goal.returns
returns c =
    c.is_one_unmarked.ensures
    ∙ ap (λ (ds : List ℤ). list_any (λ d. not (is_marked_at c.args.places.now (pos c.args.p.now.pc +ℤ d))) ds) (c.as_slice.ensures.value ∙ c.in_ok-far.ensures)
    ∙ bad_marked c.args.code.now c.args.p.now c.args.places.now c.requires.places
