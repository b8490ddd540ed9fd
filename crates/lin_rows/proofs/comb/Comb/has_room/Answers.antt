use Rattle.std.specs.Prelude.{ℕ}
use Rattle.std.proofs.Common.{sym, subst}
use Rattle.lin_rows.specs.declared.row.Row.{Row}
use Rattle.lin_rows.specs.Rows.{lins, HaveRoom}
use Rattle.lin_rows.specs.Linear.{nothing}
use Rattle.lin_rows.proofs.Places.{room_made, room_known}
use Rattle.lin_rows.proofs.comb.Comb.has_room.Goals as goal

pub returns : goal.returns
returns c =
    let row : Row = record { lin = nothing } in (
      λ yes. subst (λ (n : ℕ). HaveRoom n (lins c.args.rows.now)) c.len.ensures (room_made c.args.rows.now c.len.result (c.have_room.ensures.0 yes)),
      λ room. c.have_room.ensures.1 (room_known c.args.rows.now c.len.result row (subst (λ (n : ℕ). HaveRoom n (lins c.args.rows.now)) (sym c.len.ensures) room)),
    )
