-- Inner: the answer over tables, and what was found told as an answer.
use Rattle.std.specs.Prelude.{◌≡◌, true, false, Some, None}
use Rattle.clf_syntax.specs.Tree.{PlainObject, PlainNeutral, atomic}
use Rattle.clf_syntax.specs.TypeTree.{SimpleType}
use Rattle.clf_syntax.specs.Simple.{SimplyTyped}
use Rattle.pattern_laws.specs.Equations.{scoped}
use Rattle.pattern_laws.specs.Patterns.{OnLocals}
use Rattle.celf_constraints.specs.declared.places.Places.{Places}
use Rattle.celf_constraints.specs.Equated.{plain_locals}
use Rattle.celf_constraints.specs.Reading.{plain_places, own_places}
use Rattle.reach_walk.specs.Walked.{Found}
use Rattle.celf_reach.specs.declared.answer.Reach.{Reach}
use Rattle.celf_reach.specs.declared.answer.Reach.TheVariants.{No, Clash, Same, Prune, Assign}
use Rattle.celf_reach.specs.declared.tables.Tables.{Tables}
use Rattle.celf_reach.specs.Answered.{heads_of, Answers}

-- The answer holds where both sides are typed.
abbrev pub AnswersFor : Tables → SimpleType → PlainObject → PlainObject → Reach → Type 0
AnswersFor t a side other r = SimplyTyped (scoped (plain_locals t.locals.now) (heads_of t.consts.now t.metas.now)) side a → SimplyTyped (scoped (plain_locals t.locals.now) (heads_of t.consts.now t.metas.now)) other a
    → Answers (heads_of t.consts.now t.metas.now) (plain_locals t.locals.now) a side other r

-- The same, where the side is a metavariable at these places.
abbrev pub AnswersAt : Tables → SimpleType → PlainObject → PlainNeutral → Places → PlainObject → Reach → Type 0
AnswersAt t a side n p other r = side ≡ atomic n → OnLocals (scoped (plain_locals t.locals.now) (heads_of t.consts.now t.metas.now)) n p.meta (plain_places p) (own_places p) a → AnswersFor t a side other r

abbrev pub Told : Found → Places → Reach → Type 0
Told f p No = (f.clash ≡ false) × (f.free ≡ false)
Told f p Clash = f.clash ≡ true
Told f p (Same mask) = ⊥
Told f p (Prune k mask) = (f.free ≡ true) × (f.prune ≡ Some (k, mask.items))
Told f p (Assign q) = (f.free ≡ true) × (f.prune ≡ None) × (q ≡ p)
