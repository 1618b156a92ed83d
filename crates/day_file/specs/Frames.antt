-- The frames of a day file: each body comes after its length in two bytes, the high one first.
-- To be believed.
use Rattle.std.specs.Prelude.{◌≡◌, ℕ, ◌+◌, ◌<◌, ◌^◌, List, [], ◌∷◌, ◌++◌, length, take, drop, All, Option}
use Rattle.std.specs.List.{flat_map}
use Rattle.byteorder.specs.Endian.{big_bytes}

-- a body, and the place of its frame: the number of bytes before its length
pub record PlacedBody : Type 0 where
  pub place : ℕ
  pub body : List ℕ

-- the frame of a body: its length in two bytes, the high one first, then the body
abbrev pub frame_of : List ℕ → List ℕ
frame_of body = big_bytes 2 (length body) ++ body

-- the bytes of frames, one after the other
abbrev pub spelling : List PlacedBody → List ℕ
spelling frames = flat_map (λ frame. frame_of frame.body) frames

-- the first frame begins at this place, and each other one where the one before it ends
abbrev pub StandAt : ℕ → List PlacedBody → Type 0
StandAt place [] = Unit {0}
StandAt place (frame ∷ frames) = (frame.place ≡ place) × StandAt (place + length (frame_of frame.body)) frames

-- the length of a body fits into two bytes
abbrev pub IsShort : List ℕ → Type 0
IsShort body = length body < 2 ^ 16

-- these are the frames of these bytes, of which the first begins at this place
pub record StandsFrom (start : ℕ) (frames : List PlacedBody) (bytes : List ℕ) : Type 0 where
  pub places : StandAt start frames
  pub short : All (λ frame. IsShort frame.body) frames
  pub whole : bytes ≡ spelling frames

-- these are the frames of these bytes, each with the number of bytes before it. At most one list is that, and its
-- places rise (`one_reading`).
abbrev pub StandsFor : List PlacedBody → List ℕ → Type 0
StandsFor frames bytes = StandsFrom 0 frames bytes

-- the bytes are whole frames
abbrev pub IsWhole : List ℕ → Type 0
IsWhole bytes = (frames : List PlacedBody) × StandsFor frames bytes

-- these bytes don't begin with a whole frame
abbrev pub IsStuck : List ℕ → Type 0
IsStuck bytes = (body rest : List ℕ) → IsShort body → bytes ≡ frame_of body ++ rest → ⊥

-- whole frames come before this place, and after it something that doesn't begin with a whole frame. No whole file is
-- truncated, and none at two places (`one_reading`); `check` answers that a file is whole or where it is truncated.
pub record IsTruncatedAt (bytes : List ℕ) (place : ℕ) : Type 0 where
  pub front : IsWhole (take place bytes)
  pub within : place < length bytes
  pub stuck : IsStuck (drop place bytes)

-- what contracts see of a `Frames`: the frames that are left, in order, and the place where the bytes are truncated
-- after them, if they are
pub record FramesLeft : Type 0 where
  pub frames : List PlacedBody
  pub truncated : Option ℕ
