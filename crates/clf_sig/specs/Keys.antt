-- The keys of a map as the bytes of their texts.
use Rattle.std.specs.Prelude.{ℕ, List, map, string_bytes}
use Rattle.std.specs.declared.string.String.{String}

-- entries under texts, as entries under the bytes of the texts
abbrev pub named : {Z X : Type 0} → List (String Z × X) → List (List ℕ × X)
named es = map (λ e. (string_bytes e.0, e.1)) es
