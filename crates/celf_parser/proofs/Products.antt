-- Factors, and the product that they make.
use Rattle.std.proofs.Common.{◌≡◌, List, [], ◌∷◌, ◌++◌, refl, sym, ap, subst}
use Rattle.std.proofs.lemmas.List.{map-append}
use Rattle.celf_lexer.specs.declared.token.TokenKind.TheVariants.{Star}
use Rattle.celf_surface.specs.Surface.{WrittenType, tensor}
use Rattle.celf_grammar.specs.State.{State, span_to, Ends, Takes}
use Rattle.celf_grammar.specs.Grammar.{is_star, IsSync, sync_alone, sync_product, IsFactor}
use Rattle.celf_parser.specs.Product.{IsFactors, factors_none, factors_more, product_of}

-- the last of the factors may be taken into what stands after them
pub product-last : (fs : List (State × WrittenType)) (f : State × WrittenType) (b : WrittenType) (u : State)
    → product_of (fs ++ (f ∷ [])) b u ≡ product_of fs (tensor (span_to f.0 u) f.1 b) u
product-last [] f b u = refl
product-last (g ∷ fs) f b u = ap (λ (x : WrittenType). tensor (span_to g.0 u) g.1 x) (product-last fs f b u)

product-sync : {s u v : State} {fs : List (State × WrittenType)} {b : WrittenType} → IsFactors s fs u → IsSync u b v → IsSync s (product_of fs b v) v
product-sync factors_none d = d
product-sync {v = v} {b = b} (factors_more {s = s} {u = u} {fs = fs} {a = a} h g f) d =
    subst (λ (x : WrittenType). IsSync s x v) (sym (product-last fs (u, a) b v)) (product-sync h (sync_product g f d))

pub product-read : {s u v : State} {fs : List (State × WrittenType)} {b x : WrittenType} → IsFactors s fs u → IsSync u b v → x ≡ product_of fs b v → IsSync s x v
product-read {s} {v = v} h d e = subst (λ (x : WrittenType). IsSync s x v) (sym e) (product-sync h d)

pub product_alone-read : {s u v : State} {fs : List (State × WrittenType)} {b x : WrittenType}
    → IsFactors s fs u → IsFactor u b v → Ends is_star v → x ≡ product_of fs b v → IsSync s x v
product_alone-read h d k e = product-read h (sync_alone d k) e

pub factors_none-read : {s : State} {fs : List (State × WrittenType)} → fs ≡ [] → IsFactors s fs s
factors_none-read {s} e = subst (λ (l : List (State × WrittenType)). IsFactors s l s) (sym e) factors_none

pub factors_more-read : {s u v w : State} {fs gs : List (State × WrittenType)} {a : WrittenType}
    → IsFactors s fs u → IsFactor u a v → Takes Star v w → gs ≡ fs ++ ((u, a) ∷ []) → IsFactors s gs w
factors_more-read {s} {w = w} h g f e = subst (λ (l : List (State × WrittenType)). IsFactors s l w) (sym e) (factors_more h g f)

pub ruleset product_steps = (product-last, map-append)

pub ruleset sync_steps = (product-read, product_alone-read, factors_none-read, factors_more-read, map-append)
