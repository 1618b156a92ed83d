use Rattle.std.proofs.Common.{◌^◌, ◌-◌, ◌≡◌, min, length, take}
use Rattle.sinks.specs.Written.{text_of}
use Rattle.sinks.proofs.shares.is_short.Given as goal

-- the bytes so far, if they can be counted
abbrev pub invariant-loop-text : goal.invariant-loop-text
invariant-loop-text l = l.bytes ≡ min (length (text_of (take l.text-index l.texts))) (2 ^ 64 - 1)
