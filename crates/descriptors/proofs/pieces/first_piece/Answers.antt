use Rattle.std.proofs.Common.{◌≡◌, ℕ, ◌-◌, List, length, take, drop, Some, sym, subst}
use Rattle.std.proofs.lemmas.List.{take_rest}
use Rattle.descriptors.specs.Sizes.{IsFirstPiece}
use Rattle.descriptors.proofs.Cuts.{first_at, not_empty}
use Rattle.descriptors.proofs.pieces.first_piece.Goals as goal

pub returns : goal.returns
returns c =
    let text = c.args.text.now in
    let size = c.piece_size-size.result in
    let behind : take (length text - size) (drop size text) ≡ drop size text = take_rest text size in
    subst (λ (rest : List ℕ). IsFirstPiece (Some (take size text, rest)) text) (sym behind)
    (first_at text size (not_empty text c.is_empty.result c.is_empty.ensures c.if-is_empty.false) c.piece_size-size.ensures.size)
