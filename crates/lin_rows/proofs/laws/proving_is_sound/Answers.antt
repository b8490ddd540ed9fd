use Rattle.lin_rows.proofs.Sound.{reached_holds, proved_holds, proved_holds_at_whole, no_point}
use Rattle.lin_rows.proofs.laws.proving_is_sound.Goals as goal

pub returns : goal.returns
returns c = record {
  reached = reached_holds;
  points = proved_holds;
  whole_numbers = proved_holds_at_whole;
  contradiction = no_point;
}
