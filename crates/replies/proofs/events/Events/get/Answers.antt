use Rattle.std.proofs.Common.{◌≡◌, ◌*◌, ◌/◌, ◌<◌, ◌++◌, length, get_or, drop, take, sym, ap, ◌∙◌, rules, arith}
use Rattle.calls.specs.Form.{event_bytes}
use Rattle.replies.proofs.Listed.{chunk_at, event_at, none_at}
use Rattle.replies.proofs.events.Events.get.Goals as goal

pub returns-in_err-get : goal.returns-in_err-get
returns-in_err-get c = rw c.from_residual.ensures (none_at c.args.i c.args.self.now.bytes.now (omega (arith, c.in_err-get.ensures.lookup, c.as_chunks.ensures.front_len)))

pub returns : goal.returns
returns c =
    let bytes = c.args.self.now.bytes.now in
    let there = c.in_ok-get.ensures.lookup in
    let chunk = c.in_ok-get.field-0.now in
    let in_range : c.args.i < length bytes / 24 = search rules in
    let is : take 24 (drop (24 * c.args.i) bytes) ≡ event_bytes c.in_ok-event.event ++ c.in_ok-event.field-0-1.now = sym (there.1 ∙ ap (λ l. get_or l c.args.i chunk) c.as_chunks.ensures.front ∙ chunk_at (length bytes / 24) c.args.i bytes chunk in_range) ∙ c.in_ok-event.ensures in
    event_at c.args.i bytes c.in_ok-event.field-0-1.now c.in_ok-event.event (search rules) (search rules) (search rules) in_range is
