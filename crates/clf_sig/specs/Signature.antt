-- What contracts see of a `Signature`: the declarations so far, oldest first, each under its name; and its plain signature.
use Rattle.std.specs.Prelude.{ℕ, List, map}
use Rattle.clf_syntax.specs.PlainTypes.{plain_ty, plain_kind}
use Rattle.clf_sig.specs.declared.entry.Class.{Class}
use Rattle.clf_sig.specs.declared.entry.Class.TheVariants.{Family, Constant}
use Rattle.clf_sig.specs.declared.entry.Entry.{Entry}
use Rattle.clf_sig.specs.Entry.{PlainClass, family_of, constant_of, PlainEntry, PlainSignature}

-- the declarations, each under the bytes of its name
abbrev pub Declared : Type 0
Declared = List (List ℕ × Entry)

abbrev pub entries : Declared → List Entry
entries sig = map (λ d. d.1) sig

abbrev pub plain_class : Class → PlainClass
plain_class (Family k) = family_of (plain_kind k)
plain_class (Constant a) = constant_of (plain_ty a)

abbrev pub plain_entry : Entry → PlainEntry
plain_entry e = record { implicit = e.implicit; class = plain_class e.class }

-- the declarations with plain kinds and types
abbrev pub plain_signature : Declared → PlainSignature
plain_signature sig = map (λ d. (d.0, plain_entry d.1)) sig
