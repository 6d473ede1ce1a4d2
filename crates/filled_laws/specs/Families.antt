-- Simple types over a signature.
use Rattle.clf_syntax.specs.TypeTree.{SimpleType}
use Rattle.clf_sig.specs.Entry.{PlainSignature}
use Rattle.typing_laws.specs.SimpleTyping.{families_of}
use Rattle.celf_filled.specs.TypedFrom.{indices_of}
use Rattle.celf_filled.specs.FormedTypes.{HaveIndices}

-- Each family in the simple type is one of the signature, with the simple types of its indices.
abbrev pub HasFamilies : PlainSignature → SimpleType → Type 0
HasFamilies sig t = HaveIndices (families_of sig) (indices_of sig) t
