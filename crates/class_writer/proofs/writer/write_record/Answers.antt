use Rattle.class_writer.proofs.Fits.{slots_fit, methods_fit}
use Rattle.class_writer.proofs.writer.write_record.Goals as goal

pub put_pool-requires-clause-texts : goal.put_pool-requires-clause-texts
put_pool-requires-clause-texts c = rw (c.pool.ensures, c.in_ok-indices.ensures) (slots_fit c.args.class.now.pool c.requires.valid.is_pool)

pub put_body-requires-clause-methods : goal.put_body-requires-clause-methods
put_body-requires-clause-methods c = methods_fit c.args.class.now.pool c.args.class.now.methods c.requires.valid.are_methods c.requires.fit.handlers
