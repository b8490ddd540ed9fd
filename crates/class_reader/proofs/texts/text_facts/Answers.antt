use Rattle.std.proofs.Common.{List, Option, subst}
use Rattle.class_pool.specs.declared.constant.Constant.{Constant}
use Rattle.class_reader.specs.TextTable.{first_in, IsTextTable}
use Rattle.class_reader.proofs.TextTables.{made_table}
use Rattle.class_reader.proofs.texts.text_facts.Goals as goal

pub returns : goal.returns
returns c = subst (λ (pool : List (Option Constant)). IsTextTable pool c.in_ok-facts.facts.items) c.entries-slots.ensures (made_table c.entries-slots.result.now (first_in c.in_ok-firsts.firsts) c.in_ok-facts.facts.items c.in_ok-firsts.ensures c.in_ok-facts.ensures)
