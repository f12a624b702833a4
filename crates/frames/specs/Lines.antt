-- Lines: what stands at the front of bytes, and how a stream of them is read piece by piece.
-- Assumes nothing.
use Rattle.std.specs.Prelude.{◌≡◌, ℕ, zero, suc, ◌+◌, ◌-◌, ◌<◌, ◌≤◌, cond, ◌⊎◌, List, [], ◌∷◌, ◌++◌, length, take, drop, Some, None, Option, Ok, Err, Result, ◌==◌, nat_lt, slice_index}
use Rattle.octets.specs.Form.{four, eight, four_of, word_of}
use Rattle.streams.specs.Calls.{Reply}
use Rattle.calls.specs.declared.kinds.Call.{Call}
use Rattle.calls.specs.Form.{encoded}
use Rattle.replies.specs.Form.{form}
use Rattle.frames.specs.declared.kinds.Traffic.{Traffic}
use Rattle.frames.specs.declared.kinds.Traffic.TheVariants.{Calls, Replies}
use Rattle.frames.specs.declared.kinds.Fault.{Fault}
use Rattle.frames.specs.declared.kinds.Fault.TheVariants.{TooLong, TooShort}
use Rattle.frames.specs.declared.kinds.Frame.{Frame}

-- THE FORM OF A LINE
abbrev pub line : (number : ℕ) → List ℕ → List ℕ
line n body = four (8 + length body) ++ eight n ++ body

-- the fewest bytes of a call, or of an answer, of a kind; of a call that is not built, only its kind
abbrev pub least : Traffic → (kind : ℕ) → ℕ
least Calls k = cond (k == 1) 26 (cond (k == 2) 10 (cond (k == 3) 11 1))
least Replies k = cond (k == 0) 2 (cond (k == 2) 3 1)

pub data Seen : Type 0 where
  Whole : (number : ℕ) (body rest : List ℕ) → Seen
  NotYet : Seen
  Refused : Fault → Seen

abbrev pub seen_of : Result (Option Frame) Fault → Seen
seen_of (Ok (Some f)) = Whole f.number.0 f.body.now f.rest.now
seen_of (Ok None) = NotYet
seen_of (Err fault) = Refused fault

-- WHAT STANDS AT THE FRONT of bytes. It is known as soon as the bytes that it takes are there.
unfoldable pub seen : Traffic → List ℕ → Seen
seen t bs =
    cond (nat_lt (length bs) 4) NotYet
    (cond (nat_lt 1048576 (four_of bs)) (Refused TooLong)
    (cond (nat_lt (four_of bs) 9) (Refused TooShort)
    (cond (nat_lt (length bs) 13) NotYet
    (cond (nat_lt (four_of bs) (8 + least t (slice_index bs 12))) (Refused TooShort)
    (cond (nat_lt (length bs) (4 + four_of bs)) NotYet
    (Whole (word_of (drop 4 bs)) (take (four_of bs - 8) (drop 12 bs)) (drop (4 + four_of bs) bs)))))))

pub record Line : Type 0 where
  pub number : ℕ
  pub body : List ℕ

-- what came after the last whole line: bytes that wait for more, or a refusal, which ends the stream
pub data End : Type 0 where
  Waits : List ℕ → End
  Stops : Fault → End

pub record Stream : Type 0 where
  pub lines : List Line
  pub end : End

abbrev pub joined : Line → Stream → Stream
joined l s = record { lines = l ∷ s.lines; end = s.end }

abbrev pub onward : Seen → List ℕ → (List ℕ → Stream) → Stream
onward (Whole n b r) bs next = joined (record { number = n; body = b }) (next r)
onward NotYet bs next = record { lines = []; end = Waits bs }
onward (Refused f) bs next = record { lines = []; end = Stops f }

-- the lines of bytes, up to so many
unfoldable pub up_to : ℕ → Traffic → List ℕ → Stream
up_to zero t bs = record { lines = []; end = Waits bs }
up_to (suc k) t bs = onward (seen t bs) bs (up_to k t)

-- ALL LINES of bytes: there are fewer than bytes
abbrev pub stream_of : Traffic → List ℕ → Stream
stream_of t bs = up_to (suc (length bs)) t bs

-- one piece more
abbrev pub more : Traffic → List Line → End → List ℕ → Stream
more t ls (Waits l) b = record { lines = ls ++ (stream_of t (l ++ b)).lines; end = (stream_of t (l ++ b)).end }
more t ls (Stops f) b = record { lines = ls; end = Stops f }

abbrev pub fed : Traffic → Stream → List (List ℕ) → Stream
fed t s [] = s
fed t s (p ∷ ps) = fed t (more t s.lines s.end p) ps

abbrev pub concat : List (List ℕ) → List ℕ
concat [] = []
concat (p ∷ ps) = p ++ concat ps

-- ANY CUTTING of a stream into pieces gives the same lines, and the same that is left
abbrev pub AnyCutting : Type 0
AnyCutting = (t : Traffic) (pieces : List (List ℕ)) → fed t (record { lines = []; end = Waits [] }) pieces ≡ stream_of t (concat pieces)

-- what writing leaves: the line in front, or all as it was, where it has no room or is too long
pub record Wrote (n : ℕ) (body : List ℕ) (k : ℕ) (before after : List ℕ) : Type 0 where
  pub within : k ≤ length after
  pub bytes : take k after ≡ line n body
  pub kept : drop k after ≡ drop k before

abbrev pub Written : (number : ℕ) → List ℕ → (before after : List ℕ) → Option ℕ → Type 0
Written n body before after None = ((1048576 < 8 + length body) ⊎ (length before < length (line n body))) × (after ≡ before)
Written n body before after (Some k) = Wrote n body k before after

-- what was written is read again, with what stands behind it, if it is as long as its kind asks
abbrev pub LinesAgain : Type 0
LinesAgain = (t : Traffic) (n : ℕ) (body rest : List ℕ) → n < 18446744073709551616 → 8 + length body ≤ 1048576 → 1 ≤ length body → least t (slice_index body 0) ≤ length body → seen t (line n body ++ rest) ≡ Whole n body rest

-- EVERY CALL AND EVERY ANSWER that has bytes is read again off the front of a line
abbrev pub CallsAgain : Type 0
CallsAgain = (n : ℕ) (c : Call) (rest : List ℕ) → n < 18446744073709551616 → seen Calls (line n (encoded c) ++ rest) ≡ Whole n (encoded c) rest

abbrev pub RepliesAgain : Type 0
RepliesAgain = (n : ℕ) (a : Reply) (rest : List ℕ) → n < 18446744073709551616 → 8 + length (form a) ≤ 1048576 → seen Replies (line n (form a) ++ rest) ≡ Whole n (form a) rest
