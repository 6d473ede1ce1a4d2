-- Inner: what a judge holds, which rows it works on, and how its context grows.
use Rattle.std.specs.Prelude.{ℕ, suc, ◌+◌, ◌≡◌, List, [], ◌∷◌, ◌++◌, length}
use Rattle.clf_syntax.specs.declared.tree.TeleEntry.{TeleEntry}
use Rattle.clf_sig.specs.Entry.{PlainSignature}
use Rattle.clf_sig.specs.Signature.{plain_signature}
use Rattle.use_contexts.specs.declared.holding.Holding.{Holding}
use Rattle.use_contexts.specs.Context.{Context}
use Rattle.use_contexts.specs.Marks.{context, marks}
use Rattle.clf_kernel.specs.declared.judge.Judge.{Judge}

abbrev pub signature_of : Judge → PlainSignature
signature_of j = plain_signature j.sig.now

abbrev pub context_of : Judge → Context
context_of j = context j.ctx

-- ---- rows
-- A row has so many marks.
abbrev pub HasMarks : ℕ → Holding → Type 0
HasMarks entries row = length (marks row) ≡ entries

-- It has one for each entry of a context.
abbrev pub IsRowOver : Context → Holding → Type 0
IsRowOver g row = HasMarks (length g) row

-- It has one for each entry of the judge's context.
abbrev pub IsRowOf : Judge → Holding → Type 0
IsRowOf j row = IsRowOver (context_of j) row

-- It has one more, the newest.
abbrev pub IsInnerRowOf : Judge → Holding → Type 0
IsInnerRowOf j row = HasMarks (suc (length (context_of j))) row

-- ---- contexts that grow
-- The inner judge is over the same signature, and its context has these entries, the newest ones, after those of the outer one's.
pub record HasNewer (outer : Judge) (more : List TeleEntry) (inner : Judge) : Type 0 where
  pub alloc : inner.alloc ≡ outer.alloc
  pub signature : inner.sig ≡ outer.sig
  pub entries : inner.ctx.entries ≡ outer.ctx.entries ++ more

-- Its context has one entry more, the newest.
abbrev pub IsEntered : Judge → Judge → Type 0
IsEntered outer inner = (e : TeleEntry) × HasNewer outer (e ∷ []) inner

-- It has more entries, the newest ones.
abbrev pub IsGrown : Judge → Judge → Type 0
IsGrown outer inner = (more : List TeleEntry) × HasNewer outer more inner

-- It has so many more.
abbrev pub IsWiderBy : ℕ → Judge → Judge → Type 0
IsWiderBy more outer inner = length (context_of inner) ≡ more + length (context_of outer)
