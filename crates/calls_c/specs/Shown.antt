-- What the structs of numbers show. Assumes nothing.
use Rattle.std.specs.Prelude.{◌≡◌, ℕ, cond, List, length, Some, None, Ok, Err, Option, Result, ◌==◌, ◌≢◌}
use Rattle.plans.specs.declared.entries.Event.{Event}
use Rattle.plans.specs.declared.entries.Entry.TheVariants.{Happened, Still}
use Rattle.calls.specs.declared.kinds.Refusal.{Refusal}
use Rattle.calls.specs.declared.kinds.Call.{Call}
use Rattle.calls.specs.declared.kinds.Call.TheVariants.{Put, Out, Drop}
use Rattle.calls.specs.Form.{number_of, Encodes}
use Rattle.calls.specs.Refuse.{Refuses}
use Rattle.replies.specs.declared.kinds.Reply.{Reply}
use Rattle.replies.specs.declared.kinds.Reply.TheVariants as reply
use Rattle.replies.specs.Listing.{events_in}
use Rattle.replies.specs.Form.{reply_of, Encodes as EncodesReply}
use Rattle.streams.specs.Calls as spec
use Rattle.frames.specs.declared.kinds.Traffic.{Traffic}
use Rattle.frames.specs.declared.kinds.Traffic.TheVariants.{Calls, Replies}
use Rattle.frames.specs.declared.kinds.Fault.TheVariants.{TooLong, TooShort}
use Rattle.frames.specs.Lines.{Seen, Whole, NotYet, Refused}
use Rattle.calls_c.specs.declared.CallFields.{CallFields}
use Rattle.calls_c.specs.declared.ReplyFields.{ReplyFields}
use Rattle.calls_c.specs.declared.EventFields.{EventFields}
use Rattle.calls_c.specs.declared.LineFields.{LineFields}

abbrev pub shown_call : Result Call Refusal → CallFields
shown_call (Ok (Put l (Happened e))) = record { kind = 1; refused = 0; log = l.0; most = 0; at = e.time.0; key = e.key.0; value = e.value.0 }
shown_call (Ok (Put l (Still t))) = record { kind = 2; refused = 0; log = l.0; most = 0; at = t.0; key = 0; value = 0 }
shown_call (Ok (Out f m)) = record { kind = 3; refused = 0; log = 0; most = m; at = f.0; key = 0; value = 0 }
shown_call (Ok (Drop b)) = record { kind = 4; refused = 0; log = 0; most = 0; at = b.0; key = 0; value = 0 }
shown_call (Err r) = record { kind = 0; refused = number_of r; log = 0; most = 0; at = 0; key = 0; value = 0 }

abbrev pub call_in : CallFields → Option Call
call_in f =
    cond (f.kind == 1) (Some (Put (record { 0 = f.log }) (Happened (record { time = record { 0 = f.at }; key = record { 0 = f.key }; value = record { 0 = f.value } }))))
    (cond (f.kind == 2) (Some (Put (record { 0 = f.log }) (Still (record { 0 = f.at }))))
    (cond (f.kind == 3) (Some (Out (record { 0 = f.at }) f.most)) (cond (f.kind == 4) (Some (Drop (record { 0 = f.at }))) None)))

abbrev pub Sent : Option Call → (before after : List ℕ) → Option ℕ → Type 0
Sent None before after x = (x ≡ None) × (after ≡ before)
Sent (Some c) before after x = Encodes c before after x

-- the number of a refusal, or 0
abbrev pub number_or0 : Result Unit Refusal → ℕ
number_or0 (Ok u) = 0
number_or0 (Err r) = number_of r

abbrev pub Named : Result Call Refusal → (logs : ℕ) → ℕ → Type 0
Named (Ok c) logs n = (r : Result Unit Refusal) × Refuses c logs r × (n ≡ number_or0 r)
Named (Err r) logs n = n ≡ number_of r

abbrev pub shown_reply : Option Reply → ReplyFields
shown_reply None = record { kind = 255; refused = 0; events = 0 }
shown_reply (Some (reply.Refused r)) = record { kind = 0; refused = number_of r; events = 0 }
shown_reply (Some reply.Yes) = record { kind = 1; refused = 0; events = 0 }
shown_reply (Some (reply.Out es)) = record { kind = 2; refused = 0; events = length (events_in es.bytes.now) }
shown_reply (Some reply.Full) = record { kind = 3; refused = 0; events = 0 }

abbrev pub refused_by : Option Refusal → Option spec.Reply
refused_by None = None
refused_by (Some r) = Some (spec.No (number_of r))

-- the answer of a kind, with the refusal that goes by a number, or the events in bytes
abbrev pub answer_in : (kind : ℕ) → Option Refusal → List ℕ → Option spec.Reply
answer_in k q es = cond (k == 0) (refused_by q) (cond (k == 1) (Some spec.Yes) (cond (k == 2) (Some (spec.Outs (events_in es))) (cond (k == 3) (Some spec.Full) None)))

abbrev pub answer_of : Option Reply → Option spec.Reply
answer_of None = None
answer_of (Some r) = Some (reply_of r)

abbrev pub Goes : ℕ → Option Refusal → Type 0
Goes n None = (r : Refusal) → number_of r ≢ n
Goes n (Some r) = number_of r ≡ n

abbrev pub SentReply : Option spec.Reply → (before after : List ℕ) → Option ℕ → Type 0
SentReply None before after x = (x ≡ None) × (after ≡ before)
SentReply (Some a) before after x = EncodesReply a before after x

abbrev pub shown_event : Option Event → EventFields
shown_event None = record { found = 0; time = 0; key = 0; value = 0 }
shown_event (Some e) = record { found = 1; time = e.time.0; key = e.key.0; value = e.value.0 }

abbrev pub traffic_of : ℕ → Traffic
traffic_of n = cond (n == 0) Calls Replies

abbrev pub shown_line : Seen → LineFields
shown_line (Whole n b r) = record { kind = 0; number = n; size = length b }
shown_line NotYet = record { kind = 1; number = 0; size = 0 }
shown_line (Refused TooLong) = record { kind = 2; number = 0; size = 0 }
shown_line (Refused TooShort) = record { kind = 3; number = 0; size = 0 }
