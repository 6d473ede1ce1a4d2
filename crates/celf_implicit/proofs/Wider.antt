-- Over more variables the same occurrences stand in an item, and at least as many of them are checked.
use Rattle.std.specs.Prelude.{ℕ, ◌≡◌, Bool, true, false, not, ◌&&◌, if◌then◌else◌, List, [], ◌∷◌, ◌++◌, Option, None, is_some, refl}
use Rattle.std.specs.List.{AllZip}
use Rattle.clf_syntax.specs.declared.tree.Mode.{Mode}
use Rattle.clf_syntax.specs.TypeTree.{SimpleType}
use Rattle.clf_sig.specs.Entry.{PlainSignature}
use Rattle.celf_sugar.specs.declared.plain.PName.{PName}
use Rattle.celf_sugar.specs.declared.plain.PBinder.{PBinder}
use Rattle.celf_sugar.specs.PlainTree as plain
use Rattle.celf_sugar.specs.PlainTree.{DesugaredObject, DesugaredSpine, DesugaredAct, DesugaredSteps, DesugaredTuple, DesugaredType, DesugaredTelescope, DesugaredClass, DesugaredBody}
use Rattle.celf_names.specs.Names.{family_named}
use Rattle.celf_places.specs.Places.{Place, marked, function_parts, pair_parts, entries_at, next_part, behind_act, behind_spine}
use Rattle.celf_places.specs.Heads.{Local}
use Rattle.celf_places.specs.SimpleTypes.{simple_type, local_of}
use Rattle.celf_implicit.specs.Scopes.{Scope, outermost, under}
use Rattle.celf_implicit.specs.Variables.{PlainImplicit, is_variable, is_among, head_place}
use Rattle.celf_implicit.specs.Occurrences.{AppliedLocal, Occurrence, distinct_locals, written_parts, inside, at_head, after_step, after_steps, in_object, in_spine, in_act, in_steps, in_tuple, in_indices, in_type, in_telescope, in_class, occurrences}
use Rattle.celf_implicit.proofs.SameNames.{name_of, SameNames, same_variable, same_distinct, same_bound, same_bound_pattern}

-- the same occurrence, checked where it was
pub record Below (o p : Occurrence) : Type 0 where
  pub name : o.name ≡ p.name
  pub checked : o.checked ≡ true → p.checked ≡ true
  pub at_locals : is_some o.at_locals ≡ is_some p.at_locals

pub zip_append : {A B : Type 0} (R : A → B → Type 0) (as_ : List A) (bs : List B) (cs : List A) (ds : List B) → AllZip R as_ bs → AllZip R cs ds → AllZip R (as_ ++ cs) (bs ++ ds)
zip_append R [] [] cs ds p q = q
zip_append R [] (b ∷ bs) cs ds p q = absurd p
zip_append R (a ∷ as_) [] cs ds p q = absurd p
zip_append R (a ∷ as_) (b ∷ bs) cs ds p q = (p.0, zip_append R as_ bs cs ds p.1 q)

-- scopes of the same names, of which the second is checked where the first is
record Around (s t : Scope) : Type 0 where
  pub names : SameNames s.binders t.binders
  pub checked : s.checked ≡ true → t.checked ≡ true

still_checked : (c d v x y : Bool) → (c ≡ true → d ≡ true) → (x ≡ true → y ≡ true) → (c && not (v && not x)) ≡ true → (d && not (v && not y)) ≡ true
still_checked false d v x y f g h = absurd (cc)
still_checked true d false x y f g h = rw (f refl) refl
still_checked true d true true y f g h = rw (f refl, g refl) refl
still_checked true d true false y f g h = absurd (cc)

module _ (sig : PlainSignature) (xs ys : List PlainImplicit) (more : (n : List ℕ) → is_among xs n ≡ true → is_among ys n ≡ true) where
  around_inside : (s t : Scope) (n : PName) → Around s t → Around (inside sig xs s n) (inside sig ys t n)
  around_inside s t n a = record {
    names = a.names;
    checked = rw (same_variable sig n s.binders t.binders a.names) (still_checked s.checked t.checked (is_variable sig t.binders.locals n) (is_among xs n.name) (is_among ys n.name) a.checked (more n.name));
  }

  around_under : (m k : Mode) (l h : Local) (s t : Scope) → name_of l ≡ name_of h → Around s t → Around (under m l s) (under k h t)
  around_under m k l h s t n a = record { names = same_bound m k l h s.binders t.binders n a.names; checked = a.checked }

  around_step : (s t : Scope) (p : List PBinder) (h : PName) (es : DesugaredSpine) → Around s t → Around (after_step sig xs s p h es) (after_step sig ys t p h es)
  around_step s t p h es a = record {
    names = same_bound_pattern (entries_at (behind_spine (head_place sig xs s.binders.locals h) es)) (entries_at (behind_spine (head_place sig ys t.binders.locals h) es)) p s.binders t.binders a.names;
    checked = (around_inside s t h a).checked;
  }

  around_steps : (s t : Scope) (ss : DesugaredSteps) → Around s t → Around (after_steps sig xs s ss) (after_steps sig ys t ss)
  around_steps s t plain.no_steps a = a
  around_steps s t (plain.step p h es ss) a = around_steps (after_step sig xs s p h es) (after_step sig ys t p h es) ss (around_step s t p h es a)

  one_head : (b : Bool) (o p : Occurrence) → Below o p → AllZip Below (if b then o ∷ [] else []) (if b then p ∷ [] else [])
  one_head true o p q = (q, tt)
  one_head false o p q = tt

  below_head : (s t : Scope) (as_ bs : Option (List AppliedLocal)) (p q : Place) (n : PName) → is_some as_ ≡ is_some bs → Around s t
      → AllZip Below (at_head sig xs s as_ p n) (at_head sig ys t bs q n)
  below_head s t as_ bs p q n e a =
      rw (same_variable sig n s.binders t.binders a.names)
      (one_head (is_variable sig t.binders.locals n) (record { name = n; checked = s.checked; at_locals = as_; place = p }) (record { name = n; checked = t.checked; at_locals = bs; place = q })
      (record { name = refl; checked = a.checked; at_locals = e }))

  mutual
    below_object : (s t : Scope) (p q : Place) (o : DesugaredObject) → Around s t → AllZip Below (in_object sig xs s p o) (in_object sig ys t q o)
    below_object s t p q (plain.lam w m n b) a =
        below_object (under (marked m (function_parts p).mode) (n, (function_parts p).domain) s) (under (marked m (function_parts q).mode) (n, (function_parts q).domain) t) (function_parts p).codomain (function_parts q).codomain b
        (around_under (marked m (function_parts p).mode) (marked m (function_parts q).mode) (n, (function_parts p).domain) (n, (function_parts q).domain) s t refl a)
    below_object s t p q (plain.pair w l r) a =
        zip_append Below (in_object sig xs s (pair_parts p).left l) (in_object sig ys t (pair_parts q).left l) (in_object sig xs s (pair_parts p).right r) (in_object sig ys t (pair_parts q).right r)
        (below_object s t (pair_parts p).left (pair_parts q).left l a) (below_object s t (pair_parts p).right (pair_parts q).right r a)
    below_object s t p q (plain.unit w) a = tt
    below_object s t p q (plain.monadic w ss u) a =
        zip_append Below (in_steps sig xs s ss) (in_steps sig ys t ss) (in_tuple sig xs (after_steps sig xs s ss) (entries_at p) u) (in_tuple sig ys (after_steps sig ys t ss) (entries_at q) u)
        (below_steps s t ss a) (below_tuple (after_steps sig xs s ss) (after_steps sig ys t ss) (entries_at p) (entries_at q) u (around_steps s t ss a))
    below_object s t p q (plain.atomic w h es) a =
        zip_append Below (at_head sig xs s (distinct_locals s.binders es) p h) (at_head sig ys t (distinct_locals t.binders es) q h)
        (in_spine sig xs (inside sig xs s h) (head_place sig xs s.binders.locals h) es) (in_spine sig ys (inside sig ys t h) (head_place sig ys t.binders.locals h) es)
        (below_head s t (distinct_locals s.binders es) (distinct_locals t.binders es) p q h (same_distinct s.binders t.binders a.names es) a)
        (below_spine (inside sig xs s h) (inside sig ys t h) (head_place sig xs s.binders.locals h) (head_place sig ys t.binders.locals h) es (around_inside s t h a))
    below_object s t p q (plain.hole w) a = tt

    below_spine : (s t : Scope) (p q : Place) (es : DesugaredSpine) → Around s t → AllZip Below (in_spine sig xs s p es) (in_spine sig ys t q es)
    below_spine s t p q plain.end_of_spine a = tt
    below_spine s t p q (plain.and_then e es) a =
        zip_append Below (in_act sig xs s p e) (in_act sig ys t q e) (in_spine sig xs s (behind_act p e) es) (in_spine sig ys t (behind_act q e) es)
        (below_act s t p q e a) (below_spine s t (behind_act p e) (behind_act q e) es a)

    below_act : (s t : Scope) (p q : Place) (e : DesugaredAct) → Around s t → AllZip Below (in_act sig xs s p e) (in_act sig ys t q e)
    below_act s t p q (plain.argument m o) a = below_object s t (function_parts p).domain (function_parts q).domain o a
    below_act s t p q plain.first a = tt
    below_act s t p q plain.second a = tt

    below_steps : (s t : Scope) (ss : DesugaredSteps) → Around s t → AllZip Below (in_steps sig xs s ss) (in_steps sig ys t ss)
    below_steps s t plain.no_steps a = tt
    below_steps s t (plain.step p h es ss) a =
        zip_append Below (at_head sig xs s None None h ++ in_spine sig xs (inside sig xs s h) (head_place sig xs s.binders.locals h) es) (at_head sig ys t None None h ++ in_spine sig ys (inside sig ys t h) (head_place sig ys t.binders.locals h) es)
        (in_steps sig xs (after_step sig xs s p h es) ss) (in_steps sig ys (after_step sig ys t p h es) ss)
        (zip_append Below (at_head sig xs s None None h) (at_head sig ys t None None h)
        (in_spine sig xs (inside sig xs s h) (head_place sig xs s.binders.locals h) es) (in_spine sig ys (inside sig ys t h) (head_place sig ys t.binders.locals h) es)
        (below_head s t None None None None h refl a)
        (below_spine (inside sig xs s h) (inside sig ys t h) (head_place sig xs s.binders.locals h) (head_place sig ys t.binders.locals h) es (around_inside s t h a)))
        (below_steps (after_step sig xs s p h es) (after_step sig ys t p h es) ss (around_step s t p h es a))

    below_tuple : (s t : Scope) (ps qs : List (Mode × SimpleType)) (u : DesugaredTuple) → Around s t → AllZip Below (in_tuple sig xs s ps u) (in_tuple sig ys t qs u)
    below_tuple s t ps qs plain.end_of_tuple a = tt
    below_tuple s t ps qs (plain.entry m o u) a =
        zip_append Below (in_object sig xs s (next_part ps).place o) (in_object sig ys t (next_part qs).place o) (in_tuple sig xs s (next_part ps).later u) (in_tuple sig ys t (next_part qs).later u)
        (below_object s t (next_part ps).place (next_part qs).place o a) (below_tuple s t (next_part ps).later (next_part qs).later u a)

  below_indices : (s t : Scope) (ps : List (Mode × SimpleType)) (os : List DesugaredObject) → Around s t → AllZip Below (in_indices sig xs s ps os) (in_indices sig ys t ps os)
  below_indices s t ps [] a = tt
  below_indices s t ps (o ∷ os) a =
      zip_append Below (in_object sig xs s (next_part ps).place o) (in_object sig ys t (next_part ps).place o) (in_indices sig xs s (next_part ps).later os) (in_indices sig ys t (next_part ps).later os)
      (below_object s t (next_part ps).place (next_part ps).place o a) (below_indices s t (next_part ps).later os a)

  mutual
    below_type : (s t : Scope) (b : DesugaredType) → Around s t → AllZip Below (in_type sig xs s b) (in_type sig ys t b)
    below_type s t (plain.family w h is) a = below_indices s t (written_parts sig h.dollar (family_named sig h.name)) is a
    below_type s t (plain.function w m n b c) a =
        zip_append Below (in_type sig xs s b) (in_type sig ys t b) (in_type sig xs (under m (local_of sig n b) s) c) (in_type sig ys (under m (local_of sig n b) t) c)
        (below_type s t b a) (below_type (under m (local_of sig n b) s) (under m (local_of sig n b) t) c (around_under m m (local_of sig n b) (local_of sig n b) s t refl a))
    below_type s t (plain.both w b c) a = zip_append Below (in_type sig xs s b) (in_type sig ys t b) (in_type sig xs s c) (in_type sig ys t c) (below_type s t b a) (below_type s t c a)
    below_type s t (plain.top w) a = tt
    below_type s t (plain.monad w u) a = below_telescope s t u a

    below_telescope : (s t : Scope) (u : DesugaredTelescope) → Around s t → AllZip Below (in_telescope sig xs s u) (in_telescope sig ys t u)
    below_telescope s t plain.end a = tt
    below_telescope s t (plain.binding m n b u) a =
        zip_append Below (in_type sig xs s b) (in_type sig ys t b) (in_telescope sig xs (under m (local_of sig n b) s) u) (in_telescope sig ys (under m (local_of sig n b) t) u)
        (below_type s t b a) (below_telescope (under m (local_of sig n b) s) (under m (local_of sig n b) t) u (around_under m m (local_of sig n b) (local_of sig n b) s t refl a))

  outside : Around outermost outermost
  outside = record { names = refl; checked = λ e. e }

  below_class : (c : DesugaredClass) → AllZip Below (in_class sig xs c) (in_class sig ys c)
  below_class (plain.of_family t) = below_telescope outermost outermost t outside
  below_class (plain.of_constant b) = below_type outermost outermost b outside

  pub below : (b : DesugaredBody) → AllZip Below (occurrences sig xs b) (occurrences sig ys b)
  below (plain.declare n i c) = below_class c
  below (plain.query d e l a t) = below_type outermost outermost t outside
  below (plain.trace n t) = below_telescope outermost outermost t outside
  below (plain.equal l r t) =
      zip_append Below (in_object sig xs outermost (simple_type sig t) l) (in_object sig ys outermost (simple_type sig t) l) (in_object sig xs outermost (simple_type sig t) r ++ in_type sig xs outermost t) (in_object sig ys outermost (simple_type sig t) r ++ in_type sig ys outermost t)
      (below_object outermost outermost (simple_type sig t) (simple_type sig t) l outside)
      (zip_append Below (in_object sig xs outermost (simple_type sig t) r) (in_object sig ys outermost (simple_type sig t) r) (in_type sig xs outermost t) (in_type sig ys outermost t)
      (below_object outermost outermost (simple_type sig t) (simple_type sig t) r outside) (below_type outermost outermost t outside))
  below (plain.check o t) =
      zip_append Below (in_object sig xs outermost (simple_type sig t) o) (in_object sig ys outermost (simple_type sig t) o) (in_type sig xs outermost t) (in_type sig ys outermost t)
      (below_object outermost outermost (simple_type sig t) (simple_type sig t) o outside) (below_type outermost outermost t outside)
