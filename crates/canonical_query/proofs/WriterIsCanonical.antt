-- A text that is written word by word is the canonical one.
use Rattle.std.proofs.Common.{◌≡◌, ℕ, zero, suc, ◌+◌, ◌<◌, ◌≤◌, nat_lt, cond, List, [], ◌∷◌, ◌++◌, length, take, get_or, Option, Some, refl, sym, ap}
use Rattle.std.proofs.Common.{arith, append_assoc, append-nil, codes, decimal}
use Rattle.std.specs.List.{join_with_byte}
use Rattle.std.proofs.lemmas.Grind.{flat_map-append}
use Rattle.std.proofs.lemmas.List.{take_more}
use Rattle.canonical_query.specs.Canonical.{clock_text, what_words, linked, symbol_condition, time_condition, spaced, next_link}
use Rattle.std.proofs.lemmas.Bool.{lt-ltb}
use Rattle.std.proofs.lemmas.Bool.Decides.{nat_tests}
use Rattle.base.specs.declared.limits.TheConstants.{SECONDS_OF_DAY}
use Rattle.meaning.specs.Meaning.{CanBeSpelled, Meaning, Span}
use Rattle.meaning.specs.declared.query.What.TheVariants.{Bars, Sales}
use Rattle.meaning.specs.declared.query.What.{What}

-- ---- the words of a text

-- the first word stands without a space
joined_is : (first : List ℕ) (rest : List (List ℕ)) → join_with_byte 32 (first ∷ rest) ≡ first ++ spaced rest
joined_is first [] = sym (append-nil first)
joined_is first (second ∷ rest) = ap (λ ys. first ++ (32 ∷ ys)) (joined_is second rest)

joined_more : (first : List ℕ) (rest more : List (List ℕ)) → join_with_byte 32 ((first ∷ rest) ++ more) ≡ join_with_byte 32 (first ∷ rest) ++ spaced more
joined_more first rest more = grind (arith, nat_tests, joined_is, append_assoc, flat_map-append)

and_stays : (conditions : List (List (List ℕ))) → next_link (codes "and") conditions ≡ codes "and"
and_stays conditions = grind arith

linked-append : (link : List ℕ) (a b : List (List (List ℕ))) → linked link (a ++ b) ≡ linked link a ++ linked (next_link link a) b
linked-append link [] b = refl
linked-append link (c ∷ cs) b = grind (arith, append_assoc c, and_stays cs, linked-append (codes "and") cs b)

what_more : (what : What) (more : List (List ℕ)) → join_with_byte 32 (what_words what ++ more) ≡ join_with_byte 32 (what_words what) ++ spaced more
what_more Sales more = joined_more (codes "sales") [] more
what_more (Bars width) more = joined_more (codes "bars") (decimal width ∷ codes "s" ∷ []) more

pub written_is : (what : What) (moment : List (List ℕ)) (a b c : List (List (List ℕ)))
    → (((join_with_byte 32 (what_words what) ++ spaced moment) ++ spaced (linked (codes "where") a)) ++ spaced (linked (next_link (codes "where") a) b))
    ++ spaced (linked (next_link (next_link (codes "where") a) b) c)
    ≡ join_with_byte 32 (what_words what ++ (moment ++ linked (codes "where") (a ++ (b ++ c))))
written_is what moment a b c = simp (what_more, linked-append, flat_map-append, append_assoc)

in_order : (a b c d e f : List ℕ) → ((((a ++ b) ++ c) ++ d) ++ e) ++ f ≡ a ++ (b ++ (c ++ (d ++ (e ++ f))))
in_order a b c d e f = simp append_assoc

pub symbols_text : (text link : List ℕ) (symbols : Option (List (List ℕ))) (names : List (List ℕ)) → symbols ≡ Some names
    → ((((text ++ (32 ∷ link)) ++ (32 ∷ codes "symbol")) ++ (32 ∷ codes "in")) ++ (32 ∷ [])) ++ join_with_byte 44 names
    ≡ text ++ spaced (linked link (symbol_condition symbols))
symbols_text text link symbols names e = rw (e, in_order, append-nil)

in_order_seven : (a b c d e f g : List ℕ) → (((((a ++ b) ++ c) ++ d) ++ e) ++ f) ++ g ≡ a ++ (b ++ (c ++ (d ++ (e ++ (f ++ g)))))
in_order_seven a b c d e f g = simp append_assoc

pub span_text : (text link : List ℕ) (span : Option Span) (times : Span) → span ≡ Some times
    → (((((text ++ (32 ∷ link)) ++ (32 ∷ codes "time")) ++ (32 ∷ codes "from")) ++ (32 ∷ clock_text times.since)) ++ (32 ∷ codes "until"))
    ++ (32 ∷ clock_text times.until)
    ≡ text ++ spaced (linked link (time_condition span))
span_text text link span times e = rw (e, in_order_seven, append-nil)

-- ---- lists with commas

joined_push : (xs : List (List ℕ)) (x y : List ℕ) → join_with_byte 44 ((x ∷ xs) ++ y ∷ []) ≡ join_with_byte 44 (x ∷ xs) ++ (44 ∷ y)
joined_push [] x y = refl
joined_push (z ∷ zs) x y = grind (arith, append_assoc x, joined_push zs z y)

-- one name more stands after a comma, if it isn't the first
pub joined_next : (names : List (List ℕ)) (i : ℕ) (name : List ℕ) → i < length names → name ≡ get_or names i name
    → join_with_byte 44 (take (i + 1) names) ≡ join_with_byte 44 (take i names) ++ cond (nat_lt 0 i) (44 ∷ name) name
joined_next [] i name within is = absurd (omega arith)
joined_next (x ∷ xs) zero name within is = sym is
joined_next (x ∷ xs) (suc i) name within is = let next = take_more (x ∷ xs) (suc i) name within in grind (arith, joined_push (take i xs) x name, lt-ltb)

-- times that a query has are no later than the day's end
pub span_fits : {query : Meaning} → CanBeSpelled query → (some : Span) → query.span ≡ Some some → (some.since ≤ SECONDS_OF_DAY) × (some.until ≤ SECONDS_OF_DAY)
span_fits sound some e = let bound = sound.span some e in (omega (arith, bound.0, bound.1), bound.1)

pub ruleset text = (written_is, span_fits)
