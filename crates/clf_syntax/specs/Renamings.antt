-- What a declared renaming does to the numbers of variables.
use Rattle.clf_syntax.specs.declared.rename.Renaming.{Renaming}
use Rattle.clf_syntax.specs.Renaming.{Renumbering, renumbering}

abbrev pub renumbering_by : Renaming → Renumbering
renumbering_by m = renumbering m.images.items m.rest
