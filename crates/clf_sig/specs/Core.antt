-- The plain core of an item: what it says once its sugar and its implicit parts are written out.
use Rattle.std.specs.Prelude.{ℕ, List}
use Rattle.clf_syntax.specs.Tree.{PlainObject}
use Rattle.clf_syntax.specs.TypeTree.{PlainType, PlainTelescope}
use Rattle.clf_syntax.specs.Plain.{plain_obj}
use Rattle.clf_syntax.specs.PlainTypes.{plain_ty, plain_tele}
use Rattle.clf_sig.specs.declared.item.Core.{Core}
use Rattle.clf_sig.specs.declared.item.Core.TheVariants.{Declare, Query, Trace, Equal, Check}
use Rattle.clf_sig.specs.Entry.{PlainEntry}
use Rattle.clf_sig.specs.Signature.{plain_entry}

pub data PlainCore : Type 0 where
  -- this name is declared with this entry
  declares : List ℕ → PlainEntry → PlainCore
  -- the objects of a type are asked for
  queries : PlainType → PlainCore
  -- a run from a telescope is asked for
  traces : PlainTelescope → PlainCore
  -- it is asked whether two objects of a type are equal
  equates : PlainObject → PlainObject → PlainType → PlainCore
  -- it is asked whether an object has a type
  checks : PlainObject → PlainType → PlainCore

abbrev pub plain_core : Core → PlainCore
plain_core (Declare name entry) = declares name (plain_entry entry)
plain_core (Query a) = queries (plain_ty a)
plain_core (Trace s) = traces (plain_tele s)
plain_core (Equal m n a) = equates (plain_obj m) (plain_obj n) (plain_ty a)
plain_core (Check n a) = checks (plain_obj n) (plain_ty a)
