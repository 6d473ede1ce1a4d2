-- The laws of instances and of typing.
use Rattle.std.proofs.Common.{ap, subst}
use Rattle.std.specs.Prelude.{[], refl, ◌∷◌, ◌≡◌}
use Rattle.use_contexts.specs.Context.{Context, modes}
use Rattle.hered_subst.specs.Substitution.{Environment}
use Rattle.trace_equal.specs.Search.{free}
use Rattle.pattern_laws.proofs.Instances.{keeps}
use Rattle.pattern_laws.specs.Instantiations.{over}
use Rattle.gathering.proofs.Conforming.{conforms_gathers}
use Rattle.gathering.proofs.Judged.{typed_object}
use Rattle.gathering.proofs.OneGathering.{one_neutral, one_object}
use Rattle.gathering.proofs.Solving.{solves_object}
use Rattle.gathering.proofs.Spending.{keeps_heads, spends_object}
use Rattle.gathering.specs.Instances.{InstanceContext}
use Rattle.gathering.specs.Laws.{ConformingGathers, GatheringIsOne, GatheringTypes, InstanceSolves, TypedInstanceGathers}
use Rattle.gathering.specs.Spend.{Spends}

pub gathering_is_one : GatheringIsOne
gathering_is_one z none g w = record { objects = λ n a o q p x y. one_object z none n g w a o q p x y; neutrals = λ n a b o v q p x y. one_neutral z none n g w a b o v q p x y }

pub conforming_gathers : ConformingGathers
conforming_gathers z formed none free g w n a o f d p = conforms_gathers z formed none free n g w a _ o f d refl p

pub instance_solves : InstanceSolves
instance_solves sig z front y s t g h a b i w k n x o q c e p =
    solves_object sig z front y s t.constants t.fixed t.formed t.no_implicit t.typed n g h w a b o q k i.context i.formed_context p c e i.type i.formed

same_modes : (s : Environment) (g h : Context) → InstanceContext s [] g h → modes h ≡ modes g
same_modes s [] h p = ap modes p
same_modes s (e ∷ g) [] p = absurd p
same_modes s (e ∷ g) (d ∷ h) p = conses p.0 (same_modes s g h p.2)
  where
    conses : e.0 ≡ d.0 → modes h ≡ modes g → d.0 ∷ modes h ≡ e.0 ∷ modes g
    conses i j = cc

pub typed_instance_gathers : TypedInstanceGathers
typed_instance_gathers sig z y s t keeps free g h a b i w k n x o p c e =
    let (q, v) = conforming_gathers z t.formed t.no_implicit free g w n a o i.formed_context i.formed p in (
      q,
      (v, subst (λ m. Spends z w m k n o) (same_modes s g h i.context) (spends_object sig z t.no_implicit s [] (keeps_heads sig z s t.no_implicit keeps) n g h w k a b o q refl v c e)),
      (instance_solves sig z [] y s t g h a b i w k n x o q c e v).0,
    )

pub gathering_types : GatheringTypes
gathering_types sig z over no_implicit fills none g w k n a o q e f l p h = typed_object sig z over no_implicit fills none n g w k a o q e f l p.0 h p.1
