-- A context that grew, and is cut back.
use Rattle.std.proofs.Common.{◌≡◌, ◌<◌, ◌≤◌, ◌+◌, List, [], ◌∷◌, ◌++◌, length, map, refl, sym, ap, ◌∙◌, arith}
use Rattle.std.proofs.Math.Logic.{◌⊎◌, inl, inr}
use Rattle.std.proofs.Props.{props}
use Rattle.std.proofs.lemmas.List.{append_assoc, append-nil, length-append, length-map, length-reverse}
use mathlib.Core.HLevel.{is_prop→PathP}
use Rattle.clf_syntax.specs.declared.tree.TeleEntry.{TeleEntry}
use Rattle.clf_syntax.specs.PlainTypes.{plain_tele_entry}
use Rattle.clf_sig.specs.Signature.{plain_signature}
use Rattle.use_contexts.specs.declared.context.Ctx.{Ctx}
use Rattle.use_contexts.specs.Marks.{context}
use Rattle.clf_kernel.specs.declared.judge.Judge.{Judge}
use Rattle.clf_kernel.specs.Numbered.{IsNumbered}
use Rattle.clf_kernel.specs.Judge.{IsEntered, IsGrown, signature_of}

-- Judges with the same parts are the same: that a context is numbered has one proof.
pub same_judge : (a b : Judge) → a.alloc ≡ b.alloc → a.sig ≡ b.sig → a.ctx ≡ b.ctx → a ≡ b
same_judge a b e f g = λ i. record { alloc = e i; sig = f i; ctx = g i; numbered = is_prop→PathP (λ j. IsNumbered (context (g j))) (λ j. hlevel props) a.numbered b.numbered i }

abbrev pub entries_of : Judge → List TeleEntry
entries_of j = j.ctx.entries

abbrev pub context_with : List TeleEntry → Ctx
context_with es = record { entries = es }

-- the outer judge again, where no entry is newer
pub same_entries : (outer inner : Judge) → inner.alloc ≡ outer.alloc → inner.sig ≡ outer.sig → entries_of inner ≡ entries_of outer → inner ≡ outer
same_entries outer inner a s e = same_judge inner outer a s (ap context_with e)

pub not_grown : (j : Judge) → IsGrown j j
not_grown j = ([], record { alloc = refl; signature = refl; entries = sym (append-nil (entries_of j)) })

pub grown_again : (f g h : Judge) → IsGrown f g → IsGrown g h → IsGrown f h
grown_again f g h a b = (
  a.0 ++ b.0,
  record { alloc = b.1.alloc ∙ a.1.alloc; signature = b.1.signature ∙ a.1.signature; entries = b.1.entries ∙ ap (λ es. es ++ b.0) a.1.entries ∙ append_assoc (entries_of f) a.0 b.0 },
)

-- one entry more is more entries, and the signature stays
pub grown_by_one : (outer inner : Judge) → IsEntered outer inner → IsGrown outer inner
grown_by_one outer inner e = (e.0 ∷ [], e.1)

pub same_signature : (outer inner : Judge) → IsGrown outer inner → signature_of inner ≡ signature_of outer
same_signature outer inner g = ap (λ s. plain_signature s.now) g.1.signature

last_of : {X : Type 0} (xs : List X) → (xs ≡ []) ⊎ ((ys : List X) × (y : X) × (xs ≡ ys ++ y ∷ []))
last_of [] = inl refl
last_of {X = X} (x ∷ xs) = by (last_of xs)
  where
    by : (xs ≡ []) ⊎ ((ys : List X) × (y : X) × (xs ≡ ys ++ y ∷ [])) → (x ∷ xs ≡ []) ⊎ ((ys : List X) × (y : X) × (x ∷ xs ≡ ys ++ y ∷ []))
    by (inl e) = inr ([], x, ap (λ l. x ∷ l) e)
    by (inr s) = inr (x ∷ s.0, s.1, ap (λ l. x ∷ l) s.2)

-- as many variables as entries
pub entries_length : (g : Ctx) → length (context g) ≡ length g.entries
entries_length g = length-reverse (map plain_tele_entry g.entries) ∙ length-map g.entries plain_tele_entry

module _ (inner : Judge) (es : List TeleEntry) (y : TeleEntry) (e : entries_of inner ≡ es ++ y ∷ []) where
  one_fewer : length (entries_of inner) ≡ length es + 1
  one_fewer = ap length e ∙ length-append es (y ∷ [])

  pub still_numbered : IsNumbered (context (context_with es))
  still_numbered =
      let n = entries_length inner.ctx in
      let k = entries_length (context_with es) in
      let o = one_fewer in
      omega (arith, inner.numbered, n, k, o)

  -- the judge without its newest entry
  abbrev pub without_newest : Judge
  without_newest = record inner { ctx = context_with es; numbered = still_numbered }

  pub newest_is_entered : IsEntered without_newest inner
  newest_is_entered = (y, record { alloc = refl; signature = refl; entries = e })

  pub fewer_entries : length (entries_of without_newest) < length (entries_of inner)
  fewer_entries = let o = one_fewer in omega (arith, o)

-- Where there are more than the older entries, the newest one is none of these.
pub grown_entered : (outer inner : Judge) → IsGrown outer inner → length (entries_of outer) < length (entries_of inner) → (mid : Judge) × IsGrown outer mid × IsEntered mid inner
grown_entered outer inner g l = by (last_of g.0)
  where
    by : (g.0 ≡ []) ⊎ ((ys : List TeleEntry) × (y : TeleEntry) × (g.0 ≡ ys ++ y ∷ [])) → (mid : Judge) × IsGrown outer mid × IsEntered mid inner
    by (inl n) = let k : length (entries_of inner) ≡ length (entries_of outer) = ap length (g.1.entries ∙ ap (λ m. entries_of outer ++ m) n ∙ append-nil (entries_of outer)) in absurd (omega (arith, k, l))
    by (inr s) =
        let e = g.1.entries ∙ ap (λ m. entries_of outer ++ m) s.2 ∙ sym (append_assoc (entries_of outer) s.0 (s.1 ∷ [])) in
        (without_newest inner (entries_of outer ++ s.0) s.1 e, (s.0, record { alloc = g.1.alloc; signature = g.1.signature; entries = refl }), newest_is_entered inner (entries_of outer ++ s.0) s.1 e)

-- Where there are no more than the older entries, these are all.
none_more : {X : Type 0} (old outer more : List X) → old ≡ outer ++ more → length old ≤ length outer → old ≡ outer
none_more old outer [] e l = e ∙ append-nil outer
none_more old outer (x ∷ more) e l = let k : length old ≡ length outer + length (x ∷ more) = ap length e ∙ length-append outer (x ∷ more) in absurd (omega (arith, k, l))

pub grown_none : (outer inner : Judge) → IsGrown outer inner → length (entries_of inner) ≤ length (entries_of outer) → inner ≡ outer
grown_none outer inner g l = same_entries outer inner g.1.alloc g.1.signature (none_more (entries_of inner) (entries_of outer) g.0 g.1.entries l)

-- What has entries has a newest one.
pub newest_entered : (inner : Judge) → 0 < length (entries_of inner) → (mid : Judge) × IsEntered mid inner × (length (entries_of mid) < length (entries_of inner))
newest_entered inner l = by (last_of (entries_of inner))
  where
    by : (entries_of inner ≡ []) ⊎ ((ys : List TeleEntry) × (y : TeleEntry) × (entries_of inner ≡ ys ++ y ∷ [])) → (mid : Judge) × IsEntered mid inner × (length (entries_of mid) < length (entries_of inner))
    by (inl n) = let k : length (entries_of inner) ≡ 0 = ap length n in absurd (omega (arith, k, l))
    by (inr s) = (without_newest inner s.0 s.1 s.2, newest_is_entered inner s.0 s.1 s.2, fewer_entries inner s.0 s.1 s.2)
