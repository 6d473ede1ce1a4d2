-- Tokens that a run takes one after another.
use Rattle.std.proofs.Common.{◌≡◌, ◌+◌, ℕ, suc, List, [], ◌∷◌, ◌++◌, Bool, true, false, length, refl, ap, ◌∙◌, subst}
use Rattle.std.proofs.lemmas.Bool.{true≢false}
use Rattle.celf_lexer.specs.Tokens.{Lexeme}
use Rattle.celf_grammar.specs.Machine.{Symbol, Restore, Mark, PatternTail, Arguments, TupleTail, Indices, BackTail, ForwardTail, StarTail, AmpTail, Implicit, Fed, next, done, stops, deep, feed, Verdict, accepted, unexpected, too_deep, lacking, at_end, after_token, runs_on}
use Rattle.celf_grammar.proofs.Lift.{lift, Lifted, feed-lifts}

-- Each of the tokens is taken, and from one list of symbols and room they lead to another.
abbrev pub Passes : List Lexeme → List Symbol → ℕ → List Symbol → ℕ → Type 0
Passes [] j m k n = (j ≡ k) × (m ≡ n)
Passes (t ∷ ts) j m k n = (i : List Symbol) × (l : ℕ) × (feed j m t ≡ next i l) × Passes ts i l k n

-- The run over more tokens goes on where these led to.
pub passes-run : (ts more : List Lexeme) (j : List Symbol) (m : ℕ) (k : List Symbol) (n end : ℕ) → Passes ts j m k n
    → (d : ℕ) × (runs_on (ts ++ more) j m end ≡ runs_on more k n d)
passes-run [] more j m k n end p = (end, ap (λ i. runs_on more i m end) p.0 ∙ ap (λ l. runs_on more k l end) p.1)
passes-run (t ∷ ts) more j m k n end p =
    let r = passes-run ts more p.0 p.1 k n (t.start + length t.spelling) p.3 in (r.0, ap (after_token t (ts ++ more) (runs_on (ts ++ more)) end) p.2 ∙ r.1)

pub passes-lift : (ts : List Lexeme) (j : List Symbol) (m : ℕ) (k : List Symbol) (n : ℕ) → Passes ts j m k n → Passes ts (lift j) (suc m) (lift k) (suc n)
passes-lift [] j m k n p = (ap lift p.0, ap suc p.1)
passes-lift (t ∷ ts) j m k n p =
    (lift p.0, suc p.1, subst (λ f. Lifted f (feed (lift j) (suc m) t)) p.2 (feed-lifts j m t), passes-lift ts p.0 p.1 k n p.3)

pub passes-push : (ts : List Lexeme) (t : Lexeme) (j : List Symbol) (m : ℕ) (k : List Symbol) (n : ℕ) (i : List Symbol) (l : ℕ)
    → Passes ts j m k n → feed k n t ≡ next i l → Passes (ts ++ (t ∷ [])) j m i l
passes-push [] t j m k n i l p e = (i, l, ap (λ x. feed x m t) p.0 ∙ ap (λ r. feed k r t) p.1 ∙ e, (refl, refl))
passes-push (s ∷ ts) t j m k n i l p e = (p.0, p.1, p.2, passes-push ts t p.0 p.1 k n i l p.3 e)

pub passes-front : (front : List Lexeme) (t : Lexeme) (back : List Lexeme) (j : List Symbol) (m : ℕ) (k : List Symbol) (n : ℕ)
    → Passes (front ++ (t ∷ back)) j m k n → (i : List Symbol) × (l : ℕ) × Passes (front ++ (t ∷ [])) j m i l
passes-front [] t back j m k n p = (p.0, p.1, (p.0, p.1, p.2, (refl, refl)))
passes-front (s ∷ front) t back j m k n p = let r = passes-front front t back p.0 p.1 k n p.3 in (r.0, r.1, (p.0, p.1, p.2, r.2))

-- Where a run comes to its verdict: after the tokens that it took.
abbrev pub Comes : List Lexeme → List Symbol → ℕ → Verdict → Type 0
Comes ts j m (accepted u) = Unit {0}
Comes ts j m (unexpected t) = (front others : List Lexeme) × (ts ≡ front ++ (t ∷ others)) × (k : List Symbol) × (n : ℕ) × Passes front j m k n × (feed k n t ≡ stops)
Comes ts j m (too_deep t) = (front others : List Lexeme) × (ts ≡ front ++ (t ∷ others)) × (k : List Symbol) × (n : ℕ) × Passes front j m k n × (feed k n t ≡ deep)
Comes ts j m lacking = (k : List Symbol) × (n : ℕ) × Passes ts j m k n

abbrev at_token : Verdict → Bool
at_token (unexpected t) = true
at_token (too_deep t) = true
at_token _ = false

end-at_none : (k : List Symbol) (room end : ℕ) → at_token (at_end k room end) ≡ false
end-at_none [] room end = refl
end-at_none (Restore before ∷ k) room end = end-at_none k before end
end-at_none (Mark ∷ k) room end = end-at_none k room end
end-at_none (PatternTail ∷ k) room end = end-at_none k room end
end-at_none (Arguments ∷ k) room end = end-at_none k room end
end-at_none (TupleTail ∷ k) room end = end-at_none k room end
end-at_none (Indices ∷ k) room end = end-at_none k room end
end-at_none (BackTail ∷ k) room end = end-at_none k room end
end-at_none (ForwardTail ∷ k) room end = end-at_none k room end
end-at_none (StarTail ∷ k) room end = end-at_none k room end
end-at_none (AmpTail ∷ k) room end = end-at_none k room end
end-at_none (Implicit ∷ k) room end = end-at_none k room end
end-at_none (x ∷ k) room end = refl

end-comes : (j : List Symbol) (m : ℕ) (v : Verdict) → at_token v ≡ false → Comes [] j m v
end-comes j m (accepted u) h = tt
end-comes j m (unexpected t) h = absurd (true≢false h)
end-comes j m (too_deep t) h = absurd (true≢false h)
end-comes j m lacking h = (j, m, (refl, refl))

more-comes : (t : Lexeme) (ts : List Lexeme) (j : List Symbol) (m : ℕ) (i : List Symbol) (l : ℕ) (v : Verdict) → feed j m t ≡ next i l → Comes ts i l v → Comes (t ∷ ts) j m v
more-comes t ts j m i l (accepted u) e c = tt
more-comes t ts j m i l (unexpected w) e c = (t ∷ c.0, c.1, ap (λ x. t ∷ x) c.2, c.3, c.4, (i, l, e, c.5), c.6)
more-comes t ts j m i l (too_deep w) e c = (t ∷ c.0, c.1, ap (λ x. t ∷ x) c.2, c.3, c.4, (i, l, e, c.5), c.6)
more-comes t ts j m i l lacking e c = (c.0, c.1, (i, l, e, c.2))

token-comes : (t : Lexeme) (ts : List Lexeme) (j : List Symbol) (m end : ℕ) → ((i : List Symbol) (l e : ℕ) → Comes ts i l (runs_on ts i l e))
    → (f : Fed) → feed j m t ≡ f → Comes (t ∷ ts) j m (after_token t ts (runs_on ts) end f)
token-comes t ts j m end go (next i l) e = let d = t.start + length t.spelling in more-comes t ts j m i l (runs_on ts i l d) e (go i l d)
token-comes t ts j m end go (done l) e = tt
token-comes t ts j m end go stops e = ([], ts, refl, j, m, (refl, refl), e)
token-comes t ts j m end go deep e = ([], ts, refl, j, m, (refl, refl), e)

pub run-comes : (ts : List Lexeme) (j : List Symbol) (m end : ℕ) → Comes ts j m (runs_on ts j m end)
run-comes [] j m end = end-comes j m (at_end j m end) (end-at_none j m end)
run-comes (t ∷ ts) j m end = token-comes t ts j m end (λ i l e. run-comes ts i l e) (feed j m t) refl
