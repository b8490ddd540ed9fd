use Rattle.std.proofs.Common.{◌≡◌, ◌++◌, take}
use Rattle.text_out.specs.Names.{is_marked, name_text}
use Rattle.text_out.proofs.names.push_name.Given as goal

abbrev pub invariant-loop-byte : goal.invariant-loop-byte
invariant-loop-byte l = l.out.items ≡ l.fn.out.items ++ name_text (is_marked l.marked) (take l.byte-index l.name)
