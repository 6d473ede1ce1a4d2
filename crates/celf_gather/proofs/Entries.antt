-- One step along the entries of a telescope.
use Rattle.std.proofs.Common.{◌≡◌, ℕ, ◌+◌, ◌<◌, List, ◌∷◌, length, map, drop, get_or, sym, ap, subst, ◌∙◌}
use Rattle.clf_syntax.specs.declared.tree.Mode.{Mode}
use Rattle.clf_syntax.specs.declared.tree.TeleEntry.{TeleEntry, out-TeleEntry}
use Rattle.clf_syntax.specs.TypeTree.{PlainType, PlainTelescope, binding, telescope_of}
use Rattle.clf_syntax.specs.PlainTypes.{plain_ty, plain_tele_entry, plain-tele-entry}
use Rattle.use_contexts.specs.Context.{Context}
use Rattle.hered_put.specs.Function.{made, after}
use Rattle.pattern_laws.specs.Equations.{Equation}
use Rattle.celf_gather.specs.declared.stop.Stop.{Stop}
use Rattle.celf_gather.specs.Scene.{Scene}
use Rattle.celf_gather.specs.Formed.{type_after, telescope_after, bound_after}
use Rattle.celf_gather.specs.Stops.{Stops}
use Rattle.celf_gather.proofs.Stopping.{then_stops}
use Rattle.celf_gather.proofs.Lists.{from_place}
use Rattle.celf_gather.proofs.Along.{then_then}

module _ (k : Scene) (entries : List TeleEntry) (i : ℕ) (x : TeleEntry) (l : i < length entries) (e : x ≡ get_or entries i x) where
  abbrev later : PlainTelescope
  later = telescope_of (map plain_tele_entry (drop (i + 1) entries))

  abbrev this : Mode × PlainType
  this = ((out-TeleEntry x).mode, plain_ty (out-TeleEntry x).ty)

  entries_from : (g : Context) (p : List Equation) → telescope_after k g (telescope_of (map plain_tele_entry (drop i entries))) p ≡ after (bound_after k this (g, p)) (λ y. telescope_after k y.0 later y.1)
  entries_from g p = ap (λ es. telescope_after k g (telescope_of es) p) (from_place plain_tele_entry entries i x l e)
      ∙ ap (λ (d : Mode × PlainType). telescope_after k g (binding d.0 d.1 later) p) (plain-tele-entry x)
      ∙ sym (then_then (type_after k g (plain_ty (out-TeleEntry x).ty) p) (λ q. made (this ∷ g, q)) (λ y. telescope_after k y.0 later y.1))

  pub entries_more : (g h : Context) (p q : List Equation) → bound_after k this (g, p) ≡ made (h, q)
      → telescope_after k g (telescope_of (map plain_tele_entry (drop i entries))) p ≡ telescope_after k h later q
  entries_more g h p q o = entries_from g p ∙ ap (λ w. after w (λ y. telescope_after k y.0 later y.1)) o

  pub entries_stop : (g : Context) (p : List Equation) (s : Stop) → Stops (bound_after k this (g, p)) s → Stops (telescope_after k g (telescope_of (map plain_tele_entry (drop i entries))) p) s
  entries_stop g p s o = subst (λ w. Stops w s) (sym (entries_from g p)) (then_stops (bound_after k this (g, p)) (λ y. telescope_after k y.0 later y.1) s o)
