-- A time in whole seconds lies in the interval of each time in its last second, whatever the width.
use Rattle.std.proofs.Common.{◌≡◌, ℕ, ◌*◌, ◌/◌, ◌<◌, zero, sym, ap, ◌∙◌, arith}
use Rattle.std.proofs.Math.Nat.{div-div-eq-div-mul, mul-div_cancel, mul_assoc, mul_comm}
use Rattle.base.specs.declared.limits.TheConstants.{NANOSECONDS}
use Rattle.bar.specs.OneBar.{interval_start}

-- whole units in intervals of that many units
units : (n w s : ℕ) → zero < n → s * n / (w * n) ≡ s / w
units n w s some = ap (λ m. s * n / m) (mul_comm w n) ∙ sym (div-div-eq-div-mul (s * n) n w) ∙ ap (λ q. q / w) (mul-div_cancel s some)

pub start_of_second : (width second : ℕ) → interval_start width (second * NANOSECONDS) ≡ second / width * width * NANOSECONDS
start_of_second width second =
    ap (λ k. k * (width * NANOSECONDS)) (units NANOSECONDS width second (omega arith)) ∙ sym (mul_assoc (second / width) width NANOSECONDS)

pub start_in_seconds : (width time : ℕ) → interval_start width (time / NANOSECONDS * NANOSECONDS) ≡ interval_start width time
start_in_seconds width time =
    ap (λ k. k * (width * NANOSECONDS))
    (units NANOSECONDS width (time / NANOSECONDS) (omega arith) ∙ div-div-eq-div-mul time NANOSECONDS width ∙ ap (λ m. time / m) (mul_comm NANOSECONDS width))
