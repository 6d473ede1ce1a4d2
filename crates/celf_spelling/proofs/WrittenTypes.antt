-- Written trees of printed types: what they are without sugar and places, and that they have no fault.
use Rattle.std.proofs.Common.{ℕ, ◌≡◌, ◌+◌, Bool, true, false, refl, ap, List, [], ◌∷◌, map, Some, None}
use Rattle.std.specs.List.{flat_map}
use Rattle.clf_syntax.specs.declared.tree.Mode.{Mode}
use Rattle.clf_syntax.specs.declared.tree.Mode.TheVariants.{Persistent, Affine, Linear}
use Rattle.celf_surface.specs.declared.surface.Arrow.{Arrow}
use Rattle.celf_surface.specs.declared.surface.Arrow.TheVariants.{To, Lolli, Affine as AffineArrow}
use Rattle.celf_surface.specs.declared.surface.Span.{Span}
use Rattle.celf_surface.specs.Surface.{WrittenObject, WrittenType, pi, exists, arrow, tensor, marked, both, type_word, family, top, one, braced}
use Rattle.celf_sugar.specs.PlainTree as plain
use Rattle.celf_sugar.specs.Sugar.{object, reading, is_kind, kind_arguments, class}
use Rattle.celf_sugar.specs.Faults.{redexes, kind_places, not_async, type_redexes, leading}
use Rattle.celf_sugar.specs.ClassLeading.{telescope_length, class_leading}
use Rattle.celf_spelling.specs.Printed.{nowhere, spelled}
use Rattle.celf_spelling.specs.Placeless.{placeless_object, placeless_type, placeless_telescope, placeless_class}
use Rattle.celf_spelling.proofs.Written.{IsWritten}

-- the arrow of a mode
abbrev pub arrow_for : Mode → Arrow
arrow_for Persistent = To
arrow_for Affine = AffineArrow
arrow_for Linear = Lolli

-- The tree without its sugar and its places is this type; it stands as one linear entry in a telescope, is no kind and has no fault at any place.
pub record IsWrittenType (a : plain.DesugaredType) (t : WrittenType) : Type 0 where
  pub is : placeless_type (reading t).as_type ≡ a
  pub alone : (reading t).as_entries ≡ (Linear, None, (reading t).as_type) ∷ []
  pub no_kind : is_kind t ≡ false
  pub no_word : (ends : Bool) → kind_places ends t ≡ []
  pub no_product : (may : Bool) → not_async may t ≡ []
  pub no_redex : type_redexes t ≡ []

-- The objects are these indices.
pub record AreWrittenIndices (os : List plain.DesugaredObject) (trees : List WrittenObject) : Type 0 where
  pub are : map (λ o. placeless_object o) (map object trees) ≡ os
  pub no_redex : flat_map redexes trees ≡ []

pub written-no_indices : AreWrittenIndices [] []
written-no_indices = record { are = refl; no_redex = refl }

pub written-more_indices : (o : plain.DesugaredObject) (os : List plain.DesugaredObject) (x : WrittenObject) (xs : List WrittenObject) → IsWritten o x → AreWrittenIndices os xs → AreWrittenIndices (o ∷ os) (x ∷ xs)
written-more_indices o os x xs p q = record { are = rw (p.is, q.are) refl; no_redex = rw (p.no_redex, q.no_redex) }

pub written-family : (name : List ℕ) (dollar : Bool) (os : List plain.DesugaredObject) (s at : Span) (trees : List WrittenObject) → AreWrittenIndices os trees
    → IsWrittenType (plain.family nowhere (spelled name dollar) os) (family s name dollar at trees)
written-family name dollar os s at trees p =
    record { is = rw p.are refl; alone = refl; no_kind = refl; no_word = λ ends. refl; no_product = λ may. refl; no_redex = p.no_redex }

pub written-top : (s : Span) → IsWrittenType (plain.top nowhere) (top s)
written-top s = record { is = refl; alone = refl; no_kind = refl; no_word = λ ends. refl; no_product = λ may. refl; no_redex = refl }

pub written-both : (a b : plain.DesugaredType) (s : Span) (l r : WrittenType) → IsWrittenType a l → IsWrittenType b r → IsWrittenType (plain.both nowhere a b) (both s l r)
written-both a b s l r p q = record {
  is = rw (p.is, q.is) refl;
  alone = refl;
  no_kind = refl;
  no_word = λ ends. rw (p.no_word false, q.no_word false);
  no_product = λ may. rw (p.no_product false, q.no_product false);
  no_redex = rw (p.no_redex, q.no_redex);
}

pub written-arrow : (m : Mode) (a b : plain.DesugaredType) (s : Span) (l r : WrittenType) → IsWrittenType a l → IsWrittenType b r
    → IsWrittenType (plain.function nowhere m None a b) (arrow s (arrow_for m) l r)
written-arrow Persistent a b s l r p q = record {
  is = rw (p.is, q.is) refl;
  alone = refl;
  no_kind = q.no_kind;
  no_word = λ ends. rw (p.no_word false, q.no_word ends);
  no_product = λ may. rw (p.no_product false, q.no_product false);
  no_redex = rw (p.no_redex, q.no_redex);
}
written-arrow Affine a b s l r p q = record {
  is = rw (p.is, q.is) refl;
  alone = refl;
  no_kind = refl;
  no_word = λ ends. rw (p.no_word false, q.no_word false);
  no_product = λ may. rw (p.no_product false, q.no_product false);
  no_redex = rw (p.no_redex, q.no_redex);
}
-- The left is one linear entry, so there is one linear function.
written-arrow Linear a b s l r p q = record {
  is = rw (p.alone, p.is, q.is) refl;
  alone = refl;
  no_kind = refl;
  no_word = λ ends. rw (p.no_word false, q.no_word false);
  no_product = λ may. rw (p.no_product true, q.no_product false);
  no_redex = rw (p.no_redex, q.no_redex);
}

pub written-pi : (n : List ℕ) (a b : plain.DesugaredType) (s : Span) (l r : WrittenType) → IsWrittenType a l → IsWrittenType b r → IsWrittenType (plain.function nowhere Persistent (Some n) a b) (pi s n l r)
written-pi n a b s l r p q = record {
  is = rw (p.is, q.is) refl;
  alone = refl;
  no_kind = q.no_kind;
  no_word = λ ends. rw (p.no_word false, q.no_word ends);
  no_product = λ may. rw (p.no_product false, q.no_product false);
  no_redex = rw (p.no_redex, q.no_redex);
}

-- ---- telescopes

-- The tree is these entries, and has no fault in braces.
pub record AreWrittenBindings (d : plain.DesugaredTelescope) (t : WrittenType) : Type 0 where
  pub are : placeless_telescope (plain.telescope_of (reading t).as_entries) ≡ d
  pub no_word : kind_places false t ≡ []
  pub no_product : not_async true t ≡ []
  pub no_redex : type_redexes t ≡ []

-- one entry without a name
pub record IsWrittenFactor (m : Mode) (a : plain.DesugaredType) (t : WrittenType) : Type 0 where
  pub entry : plain.DesugaredType
  pub entries : (reading t).as_entries ≡ (m, None, entry) ∷ []
  pub is : placeless_type entry ≡ a
  pub no_word : kind_places false t ≡ []
  pub no_product : not_async true t ≡ []
  pub no_redex : type_redexes t ≡ []

pub written-marked : (m : Mode) (a : plain.DesugaredType) (s : Span) (t : WrittenType) → IsWrittenType a t → IsWrittenFactor m a (marked s m t)
written-marked m a s t p =
    record { entry = (reading t).as_type; entries = refl; is = p.is; no_word = p.no_word false; no_product = p.no_product false; no_redex = p.no_redex }

pub written-linear : (a : plain.DesugaredType) (t : WrittenType) → IsWrittenType a t → IsWrittenFactor Linear a t
written-linear a t p =
    record { entry = (reading t).as_type; entries = p.alone; is = p.is; no_word = p.no_word false; no_product = p.no_product true; no_redex = p.no_redex }

pub written-no_bindings : (s : Span) → AreWrittenBindings plain.end (one s)
written-no_bindings s = record { are = refl; no_word = refl; no_product = refl; no_redex = refl }

pub written-last_binding : (m : Mode) (a : plain.DesugaredType) (t : WrittenType) → IsWrittenFactor m a t → AreWrittenBindings (plain.binding m None a plain.end) t
written-last_binding m a t p = record { are = rw (p.entries, p.is) refl; no_word = p.no_word; no_product = p.no_product; no_redex = p.no_redex }

pub written-more_bindings : (m : Mode) (a : plain.DesugaredType) (d : plain.DesugaredTelescope) (s : Span) (l r : WrittenType) → IsWrittenFactor m a l → AreWrittenBindings d r
    → AreWrittenBindings (plain.binding m None a d) (tensor s l r)
written-more_bindings m a d s l r p q = record {
  are = rw (p.entries, p.is, q.are) refl;
  no_word = rw (p.no_word, q.no_word);
  no_product = rw (p.no_product, q.no_product);
  no_redex = rw (p.no_redex, q.no_redex);
}

pub written-named_binding : (n : List ℕ) (a : plain.DesugaredType) (d : plain.DesugaredTelescope) (s : Span) (l r : WrittenType) → IsWrittenType a l → AreWrittenBindings d r
    → AreWrittenBindings (plain.binding Persistent (Some n) a d) (exists s n l r)
written-named_binding n a d s l r p q = record {
  are = rw (p.is, q.are) refl;
  no_word = rw (p.no_word false, q.no_word);
  no_product = rw (p.no_product false, q.no_product);
  no_redex = rw (p.no_redex, q.no_redex);
}

pub written-braced : (d : plain.DesugaredTelescope) (s : Span) (t : WrittenType) → AreWrittenBindings d t → IsWrittenType (plain.monad nowhere d) (braced s t)
written-braced d s t p = record {
  is = rw p.are refl;
  alone = refl;
  no_kind = refl;
  no_word = λ ends. p.no_word;
  no_product = λ may. p.no_product;
  no_redex = p.no_redex;
}

-- ---- kinds and classes

-- The tree is a kind with these arguments, and has no fault after the colon of a declaration.
pub record IsWrittenKind (d : plain.DesugaredTelescope) (t : WrittenType) : Type 0 where
  pub kind : is_kind t ≡ true
  pub are : placeless_telescope (plain.telescope_of (kind_arguments t)) ≡ d
  pub no_word : kind_places true t ≡ []
  pub no_product : not_async false t ≡ []
  pub no_redex : type_redexes t ≡ []
  pub leads : leading (reading t).as_type ≡ telescope_length d

pub written-word : (s : Span) → IsWrittenKind plain.end (type_word s)
written-word s = record { kind = refl; are = refl; no_word = refl; no_product = refl; no_redex = refl; leads = refl }

pub written-kind_arrow : (a : plain.DesugaredType) (d : plain.DesugaredTelescope) (s : Span) (l r : WrittenType) → IsWrittenType a l → IsWrittenKind d r
    → IsWrittenKind (plain.binding Persistent None a d) (arrow s To l r)
written-kind_arrow a d s l r p q = record {
  kind = q.kind;
  are = rw (p.is, q.are) refl;
  no_word = rw (p.no_word false, q.no_word);
  no_product = rw (p.no_product false, q.no_product);
  no_redex = rw (p.no_redex, q.no_redex);
  leads = ap (λ n. n + 1) q.leads;
}

pub written-kind_pi : (n : List ℕ) (a : plain.DesugaredType) (d : plain.DesugaredTelescope) (s : Span) (l r : WrittenType) → IsWrittenType a l → IsWrittenKind d r
    → IsWrittenKind (plain.binding Persistent (Some n) a d) (pi s n l r)
written-kind_pi n a d s l r p q = record {
  kind = q.kind;
  are = rw (p.is, q.are) refl;
  no_word = rw (p.no_word false, q.no_word);
  no_product = rw (p.no_product false, q.no_product);
  no_redex = rw (p.no_redex, q.no_redex);
  leads = ap (λ n. n + 1) q.leads;
}

-- The tree is this kind or this type, and has no fault after the colon of a declaration.
pub record IsWrittenClass (c : plain.DesugaredClass) (t : WrittenType) : Type 0 where
  pub is : placeless_class (class t) ≡ c
  pub no_word : kind_places true t ≡ []
  pub no_product : not_async false t ≡ []
  pub no_redex : type_redexes t ≡ []
  pub leads : leading (reading t).as_type ≡ class_leading c

pub written-family_class : (d : plain.DesugaredTelescope) (t : WrittenType) → IsWrittenKind d t → IsWrittenClass (plain.of_family d) t
written-family_class d t p = record { is = rw (p.kind, p.are) refl; no_word = p.no_word; no_product = p.no_product; no_redex = p.no_redex; leads = p.leads }

-- the places do not count
leading-placeless : (a : plain.DesugaredType) → leading (placeless_type a) ≡ leading a
leading-placeless (plain.family s h is) = refl
leading-placeless (plain.function s Persistent n a b) = ap (λ k. k + 1) (leading-placeless b)
leading-placeless (plain.function s Affine n a b) = refl
leading-placeless (plain.function s Linear n a b) = refl
leading-placeless (plain.both s a b) = refl
leading-placeless (plain.top s) = refl
leading-placeless (plain.monad s t) = refl

pub written-constant_class : (a : plain.DesugaredType) (t : WrittenType) → IsWrittenType a t → IsWrittenClass (plain.of_constant a) t
written-constant_class a t p = record {
  is = rw (p.no_kind, p.is) refl;
  no_word = p.no_word true;
  no_product = p.no_product false;
  no_redex = p.no_redex;
  leads = rw (← p.is, leading-placeless (reading t).as_type) refl;
}
