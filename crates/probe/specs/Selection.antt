-- Which sales a selection admits, and which are kept.
-- To be believed.
use Rattle.std.specs.Prelude.{ℕ, ◌*◌, nat_lt, nat_le, Bool, true, ◌&&◌, not, List, filter, Option, Some, None}
use Rattle.base.specs.Among.{is_among}
use Rattle.base.specs.declared.limits.TheConstants.{NANOSECONDS}
use Rattle.row_types.specs.declared.trade.Kind.{Kind}
use Rattle.row_types.specs.declared.trade.Kind.TheVariants.{E, C, P, Q}
use Rattle.row_types.specs.declared.trade.Sale.{Sale}
use Rattle.probe.specs.declared.selection.Kinds.{Kinds}
use Rattle.probe.specs.declared.selection.Locates.{Locates}
use Rattle.probe.specs.declared.selection.Locates.TheVariants.{All, Listed}
use Rattle.probe.specs.declared.selection.Selection.{Selection}
use Rattle.probe.specs.declared.selection.Span.{Span}

-- a selection has a locate: it has all, or those that are listed
abbrev pub has_locate : {A : Type 0} → Locates A → ℕ → Bool
has_locate All locate = true
has_locate (Listed list) locate = is_among list locate

-- a kind is among those that are chosen
abbrev pub has_kind : Kinds → Kind → Bool
has_kind kinds E = kinds.e
has_kind kinds C = kinds.c
has_kind kinds P = kinds.p
has_kind kinds Q = kinds.q

-- a time in nanoseconds since midnight is in the span of seconds, if there is one: at its `since` or later, and before
-- its `until`
abbrev pub has_time : Option Span → ℕ → Bool
has_time None time = true
has_time (Some span) time = nat_le (span.since * NANOSECONDS) time && nat_lt time (span.until * NANOSECONDS)

-- the sale's locate, time and kind are all asked for
abbrev pub admits : {A : Type 0} → Selection A → Sale → Bool
admits selection sale =
    has_locate selection.locates sale.locate
    && (has_time selection.span sale.time && has_kind selection.kinds sale.kind)

-- no break has the sale's match number, the selection has the sale, and it has more than zero shares
abbrev pub is_kept : List ℕ → (Sale → Bool) → Sale → Bool
is_kept breaks selection sale = not (is_among breaks sale.trade_no) && (selection sale && nat_lt 0 sale.shares)

-- the sales of a list that no break names, that a selection admits and that have more than zero shares, in the list's
-- order
abbrev pub kept : List ℕ → (Sale → Bool) → List Sale → List Sale
kept breaks selection sales = filter (is_kept breaks selection) sales
