use Rattle.class_pool.specs.Place.{Place}
use Rattle.class_reader.specs.declared.reader.ClassBody.{ClassBody}
use Rattle.class_reader.specs.ClassReading.{Rest, rest_at}
use Rattle.class_reader.proofs.Settled.{settles}
use Rattle.class_reader.proofs.reader.find_body.Goals as goal

abbrev rest_of : Place → ClassBody → Rest × Place
rest_of place body = (record { flags = body.names.flags; name = body.names.name; super_name = body.names.super_name; interfaces = body.interfaces; fields = body.fields; methods = body.methods }, place)

pub returns-clause-finds : goal.returns-clause-finds
returns-clause-finds c =
    let told = rw c.new-kept.ensures at c.read_body-read.ensures.tells in
    settles (rest_of c.read_body-read.new.cursor) c.read_body-read.result c.read_body-read.new.kept (rest_at c.args.pool.now c.args.cursor.now) c.args.end c.settle.result told c.settle.ensures
