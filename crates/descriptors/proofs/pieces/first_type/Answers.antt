use Rattle.std.specs.Option.{option_map}
use Rattle.descriptors.proofs.Cuts.{first_none, first_ends, first_of}
use Rattle.descriptors.proofs.pieces.first_type.Goals as goal

pub returns-in_default : goal.returns-in_default
returns-in_default c = first_none c.args.text.now c.in_default.len_below

pub returns-then-first-eq41 : goal.returns-then-first-eq41
returns-then-first-eq41 c = first_ends c.args.text.now c.in-len1-up.len_at_least c.if-first-eq41.true

pub returns : goal.returns
returns c =
    first_of c.args.text.now (option_map (λ r. (r.0.now, r.1.now)) c.first_piece.result) c.in-len1-up.len_at_least c.if-first-eq41.false c.first_piece.ensures
