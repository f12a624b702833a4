-- What a line of a script says, as a function of its bytes: docs/REHEARSE.md has the same in words. White space, words
-- and numbers are those of plans.
-- Assumes nothing.
use Rattle.std.specs.Prelude.{ℕ, ◌+◌, ◌-◌, cond, ◌||◌, List, length, drop, Ok, Err, codes, Result}
use Rattle.std.specs.Str.{bytes_eq}
use Rattle.plans.specs.declared.entries.Entry.TheVariants as entry
use Rattle.grammar.specs.Reading.{Got, got, bad, skip, is, is_end, is_the_word, number}
use Rattle.scripts.specs.declared.commands.Command.{Command}
use Rattle.scripts.specs.declared.commands.Command.TheVariants.{Nothing, Plan, PlanFile, Logs, Put, All, Out, Drop}
use Rattle.scripts.specs.declared.commands.Field.{Field}
use Rattle.scripts.specs.declared.commands.Field.TheVariants.{Count, Log, Time, Key, Value, From, Most, Before}
use Rattle.scripts.specs.declared.commands.Complaint.{Complaint}
use Rattle.scripts.specs.declared.commands.Complaint.TheVariants.{Unknown, NoNumber, Extra}

abbrev pub Says : Type 0
Says = Result Command Complaint

-- a number with the bytes behind it, or what is said if there is none
abbrev pub Number : Type 0
Number = Result (ℕ × List ℕ) Complaint

abbrev pub named : Field → Got ℕ → Number
named f (got n rest) = Ok (n, rest)
named f (bad why rest) = Err (NoNumber f)

unfoldable pub field_at : Field → List ℕ → Number
field_at f bs = named f (number bs)

abbrev pub then' : Number → (ℕ → List ℕ → Says) → Says
then' (Ok x) f = f x.0 x.1
then' (Err why) f = Err why

unfoldable pub alone_at : Command → List ℕ → Says
alone_at c bs = cond (is_end (skip bs)) (Ok c) (Err Extra)

unfoldable pub put_line : List ℕ → Says
put_line bs = then' (field_at Log bs) (λ l r. then' (field_at Time r) (λ t r'. then' (field_at Key r') (λ k r''. then' (field_at Value r'') (λ v end.
    alone_at (Put l (entry.Happened (record { time = record { 0 = t }; key = record { 0 = k }; value = record { 0 = v } }))) end))))

unfoldable pub still_line : List ℕ → Says
still_line bs = then' (field_at Log bs) (λ l r. then' (field_at Time r) (λ t end. alone_at (Put l (entry.Still (record { 0 = t }))) end))

unfoldable pub out_line : List ℕ → Says
out_line bs = cond (is_end (skip bs)) (Ok All) (then' (field_at From bs) (λ f r. then' (field_at Most r) (λ m end. alone_at (Out f m) end)))

unfoldable pub logs_line : List ℕ → Says
logs_line bs = then' (field_at Count bs) (λ n end. alone_at (Logs n) end)

unfoldable pub drop_line : List ℕ → Says
drop_line bs = then' (field_at Before bs) (λ n end. alone_at (Drop n) end)

-- a plan or the name of its file behind the word `plan`, in a line of so many bytes: the place where it begins
unfoldable pub plan_at : (long : ℕ) → List ℕ → Command
plan_at long rest = cond (is_the_word (codes "-file") rest) (PlanFile (long - length (drop 5 rest))) (Plan (long - length rest))

-- what a line's first word makes of what is behind it
abbrev pub by_word : (long : ℕ) → (word rest : List ℕ) → Says
by_word long word rest =
    cond (bytes_eq word (codes "put")) (put_line rest)
    (cond (bytes_eq word (codes "still")) (still_line rest)
    (cond (bytes_eq word (codes "out")) (out_line rest)
    (cond (bytes_eq word (codes "plan")) (Ok (plan_at long rest))
    (cond (bytes_eq word (codes "logs")) (logs_line rest) (cond (bytes_eq word (codes "drop")) (drop_line rest) (Err Unknown))))))

-- with the place at which the bytes stand in the line
unfoldable pub rarer_line : (at : ℕ) → List ℕ → Says
rarer_line at bs =
    cond (is_the_word (codes "plan-file") bs) (Ok (PlanFile (at + 9)))
    (cond (is_the_word (codes "plan") bs) (Ok (Plan (at + 4)))
    (cond (is_the_word (codes "logs") bs) (logs_line (drop 4 bs)) (cond (is_the_word (codes "drop") bs) (drop_line (drop 4 bs)) (Err Unknown))))

unfoldable pub word_line : (at : ℕ) → List ℕ → Says
word_line at bs =
    cond (is_end bs || is 35 bs) (Ok Nothing)
    (cond (is_the_word (codes "put") bs) (put_line (drop 3 bs))
    (cond (is_the_word (codes "still") bs) (still_line (drop 5 bs)) (cond (is_the_word (codes "out") bs) (out_line (drop 3 bs)) (rarer_line at bs))))

unfoldable pub command : List ℕ → Says
command line = word_line (length line - length (skip line)) (skip line)
