use Rattle.lin_rows.proofs.Room.{room_is_free}
use Rattle.lin_rows.proofs.laws.room_is_free.Goals as goal

pub returns : goal.returns
returns c = room_is_free
