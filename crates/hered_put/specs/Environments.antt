-- What is put, as the environment that contracts see.
use Rattle.std.specs.Prelude.{map}
use Rattle.clf_syntax.specs.Tree.{tuple_of}
use Rattle.clf_syntax.specs.Plain.{plain_obj, plain_entry}
use Rattle.hered_subst.specs.Substitution.{Environment, single, under, objects}
use Rattle.hered_put.specs.declared.environment.Images.{Images}
use Rattle.hered_put.specs.declared.environment.Images.TheVariants.{Object, Tuple}
use Rattle.hered_put.specs.declared.environment.Environment.{Environment as Declared}
use Rattle.hered_put.specs.Tupled.{tupled}

abbrev pub images_of : Images → Environment
images_of (Object obj var) = single (plain_obj obj.now) var
images_of (Tuple tuple raised) = tupled (objects (tuple_of (map plain_entry tuple.now))) raised

unfoldable pub environment_of : Declared → Environment
environment_of e = under e.binders (images_of e.images)
