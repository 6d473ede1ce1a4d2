-- What the answers give the steps of unification.
use Rattle.std.specs.Prelude.{ℕ, ◌+◌, ◌≡◌, ◌<◌, ◌⊎◌, Bool, true, List, length, Some}
use Rattle.clf_syntax.specs.Tree.{PlainObject, PlainNeutral}
use Rattle.clf_syntax.specs.TypeTree.{SimpleType}
use Rattle.store_laws.specs.Mentions.{mentions}
use Rattle.pattern_laws.specs.Instantiations.{Types, closed}
use Rattle.pattern_laws.specs.Equations.{Locals, scoped}
use Rattle.pattern_laws.specs.Patterns.{Place, IsFinal, OnDistinct, Foreign, arrows, local_at, masked, mask_at}
use Rattle.unify_laws.specs.Rigid.{Stands}

-- Metavariable k stands on distinct locals at a rigid place of the object. Each of its places that the mask leaves out is foreign, and there is one.
pub record Pruning (constants metas : Types) (ls : Locals) (ps : List Place) (x : PlainObject) (k : ℕ) (bs : List Bool) : Type 0 where
  pub inner : Locals
  pub depth : ℕ
  pub neutral : PlainNeutral
  pub places : List Place
  pub result : SimpleType
  pub deeper : length inner ≡ length ls + depth
  pub on_distinct : OnDistinct (scoped inner (closed constants metas)) neutral k places result
  pub stands : Stands depth neutral x
  pub foreign : (u w : ℕ) → local_at places u ≡ Some w → Foreign (length ls) ps depth w ⊎ (mask_at bs u ≡ true)
  pub final : IsFinal result
  pub type : metas k ≡ Some (arrows places result)
  pub fewer : length (masked 0 bs places) < length places
  pub mentioned : mentions k x ≡ true
