use Rattle.std.proofs.Common.{map, refl, subst, sym}
use Rattle.std.specs.List.{All}
use Rattle.clf_syntax.specs.PlainTypes.{plain_ty}
use Rattle.clf_sig.specs.Core.{plain_core}
use Rattle.clf_sig.specs.Signature.{plain_signature}
use Rattle.typing_laws.specs.SimpleTyping.{families_of}
use Rattle.celf_reconstruct.specs.Known.{HasSimple}
use Rattle.celf_reconstruct.specs.Naming.{types_in}
use Rattle.celf_reconstruct.specs.Steps.{heads_of_store}
use Rattle.celf_reconstruct.proofs.Appearing.{each_has_simple}
use Rattle.celf_reconstruct.proofs.answered.again.Goals as goal

pub simples_left-requires : goal.simples_left-requires
simples_left-requires c = let f = c.args.found in let h = c.requires.found.formed_in in record {
  known = subst (All (HasSimple (types_in f.store))) (sym c.requires.left)
      (each_has_simple (types_in f.store) (families_of (plain_signature c.args.sig.now)) (heads_of_store f.store) (plain_core f.core) (map plain_ty f.types) h.formed h.each (λ m. refl));
}
