-- `split_items_mut` lends words on as items of N words and the words behind them, for every N: a walk of its MIR by hand. Assumes `Logic`.
use Rattle.std.proofs.Common.{◌≡◌, ℕ, ◌+◌, ◌-◌, ◌*◌, ◌^◌, ◌<◌, ◌≤◌, List, [], ◌∷◌, length, drop as drop_list, refl, sym, ap, ◌∙◌, subst, arith, w64, MutBor}
use Rattle.std.proofs.lemmas.List.{length-drop}
use native.Mathlib.Nat.{mul_assoc, mul-le-mul_right}
use seplogic.Ra.Ura.{Ura}
use mir.Syntax.{Args, Body, Fn, named, a_number, seq, assign, place, rv_opd, copy, return}
use mir.MapTy.{inst_fn}
use mir.Val.{Val, vint, vstruct, vcons, vnil}
use base.Logic.{SProp, ent}
use base.Fml.{Lft, GName, Share, ftrue, flft}
use prog.Memory.{Memory}
use prog.Routine.{Routine}
use prog.Wp.{Env, Calls, Loops, WpFn, Tables}
use types.Logic.{Logic}
use contract.BorrowLft.{◌⊑◌}
use contract.Lifetimes.{AllOutlive}
use contract.Monad.{Fun}
use contract.Running.{tables, tables_of}
use sound.WpLaws.{WpFn-mono}
use types.Kit.{‵, ◌⊛◌, raw, given, some, later, at_ret, ◌$◌, ◌∵◌, !, qed, by, move, keep, drop, split, split3, join, learn, fsplit, fjoin, fpack, feq_i, use2, await, pick, suffices, frame, done}
use types.Part.{whole, sub, agg}
use types.Run.{stop, fld, hop, from, addr, bin, lit, and_then, no_more, of_opd, first, blocks, exec, returns, enter}
use types.ByLocal.{alloc_all, pass_all, free_all, look_at, look_in_at, get, get_in, sets, sets_last, env}
use denote.Array.{Array}
use denote.Builtin.{u64, usize}
use denote.Exit.{yes, no}
use denote.Follow.{both_by}
use denote.Param.{number, layouts}
use denote.Plain.{uint_vals, uint_Tells}
use denote.RattleType.{RattleType, owns, Valss}
use denote.Ref.{MutBor}
use denote.Signature.{plain, mut_slice_of}
use denote.Slice.{MutSlice, Room, slice_val, mut_slice_vals, mut_slice_Tells}
use denote.Steps.{nothing}
use denote.Struct.Declared.{shape}
use denote.Struct.Struct.{within as laid_within}
use denote.Struct.Tuple.{tuple_type}
use denote.Triple.Clauses.{Clauses, Ended, closing}
use denote.Triple.Entry.{on_entry}
use denote.Triple.Spec.{Meets, triple_of}
use denote.Triple.Table.{entered}
use denote.Triple.Walked.{says, Stays, stay_dropped, walk_of, ends_at, walked, Goes-dropped, Goes-spent_slice, walk_Meets}
use Rattle.std.specs.Simd.{first_chunks}
use Rattle.std.proofs.slice.Relends.{length-first_chunks}
use Rattle.words.proofs.Loans.{items_lent, lends_items}
use Rattle.words.specs.contracts.items.split_items_mut as F
use Rattle.words.specs.contracts.items.split_items_mut.Key.{name as #self}
use Rattle.words.proofs.items.split_items_mut.Statement as stated
use Rattle.words.proofs.items.split_items_mut.Code as code

module _ (n : ℕ) where
  abbrev args : Args
  args = layouts (a_number ∷ []) (number n, tt)

  abbrev function : Fn
  function = inst_fn args code.function

  abbrev ended : Ended
  ended = F.ended (number n)

  -- nothing is left of the words, nor of the two numbers
  abbrev stayed : Stays ended.signature.params ended.kept
  stayed = (stay_dropped (mut_slice_of (0 ∷ []) tt (plain (λ _. u64))) no, (stay_dropped (plain (λ _. usize)) yes, (stay_dropped (plain (λ _. usize)) yes, tt)))

-- the MIR after the `unsafe` block: its value goes to the result
abbrev rest : Body
rest = seq (assign (place 0 []) (rv_opd (copy (place 6 [])))) return

module _ (n : ℕ) {M : Type 1} {𝓤 : Ura M} (𝓛 : Logic 𝓤) (at_mem : Memory → SProp 𝓤) (run : Routine → Fun 𝓤) where
  open 𝓛 use {H}

  abbrev clauses : Clauses 𝓤 (ended n)
  clauses = F.clauses (number n) 𝓛 at_mem run

  -- the words xs are lent for κ, lie at the offset o of the block b and are named γ; m items end before the word e
  module _ (C : Calls 𝓤 H) (Λ : Loops 𝓤 H) (κ κN : Lft) (q qN : Share) (bd : AllOutlive 2 (ended n).signature.outlives (κ, (κN, tt))) (b o : ℕ) (γ : GName) (xs : List ℕ) (m e : ℕ) where
    abbrev self : MutBor (List ℕ)
    self = record { ref_ptr = (b, o); ghost_name = γ; now = xs }

    abbrev vals : List Val × (List Val × (List Val × Unit {0}))
    vals = (mut_slice_vals self, (vint w64 m ∷ [], (vint w64 e ∷ [], tt)))

    abbrev bound : (walk_of 𝓛 (ended n) (stayed n) clauses).Ghost
    bound = (((κ, (κN, tt)), (q, (qN, tt)), bd, (self, (m, (e, tt))), vals), tt)

    abbrev Post : Val → SProp 𝓤
    Post = (walk_of 𝓛 (ended n) (stayed n) clauses).post bound

    walk : Room u64 (length xs) → m < 2 ^ 64 → e < 2 ^ 64 → m * n ≡ e → e ≤ length xs → ent 𝓤 (on_entry 𝓛 (ended n).signature (κ, (κN, tt)) (q, (qN, tt)) (self, (m, (e, tt))) vals) (WpFn 𝓤 H C Λ (function n) (slice_val (b, o) (length xs) ∷ vint w64 m ∷ vint w64 e ∷ []) Post)
    unfolding both_by
    walk rm fm fe exact le =
        let fit : length xs * 8 < 2 ^ 63 = rm.1 in
        let fn : length xs < 2 ^ 64 = rm.0 in
        let fo : e * 8 < 2 ^ 64 = omega arith in
        let fr : length xs - e < 2 ^ 64 = omega arith in
        let within : m * n ≤ length xs = omega arith in
        let on : m * n * 8 + o ≡ e * 8 + o = ap (λ (k : ℕ). k * 8 + o) exact in
        let ys : List (List ℕ) = first_chunks n m xs in
        let many : length ys ≡ m = length-first_chunks n m xs in
        let grouped : m * n * 8 ≡ m * (n * 8) = mul_assoc m n 8 in
        let roomy : Room (Array u64 n) (length ys) = subst (Room (Array u64 n)) (sym many) (fm, omega arith) in
        let back : List ℕ = drop_list (m * n) xs in
        let lb : length back ≡ length xs - e = length-drop (m * n) xs ∙ ap (λ (k : ℕ). length xs - k) exact in
        let less : length back * 8 ≤ length xs * 8 = mul-le-mul_right 8 (omega arith) in
        let behind_room : Room u64 (length back) = (omega arith, omega arith) in
        let halves : List RattleType = MutSlice (named 0) κ (Array u64 n) ∷ MutSlice (named 0) κ u64 ∷ [] in
        let one : GName × GName → MutBor (List (List ℕ)) = λ δ. record { ref_ptr = (b, o); ghost_name = δ.0; now = ys } in
        let two : GName × GName → MutBor (List ℕ) = λ δ. record { ref_ptr = (b, e * 8 + o); ghost_name = δ.1; now = back } in
        let v : Val = vstruct (vcons (slice_val (b, o) m) (vcons (slice_val (b, e * 8 + o) (length xs - e)) vnil)) in
        qed 𝓛 ((‵ (flft κ q) ⊛ ‵ (flft κN qN) ⊛ ‵ ftrue) ∷ ‵ (owns (MutSlice (named 0) κ u64 ∷ usize ∷ usize ∷ []) (self, (m, (e, tt))) vals) ∷ []) ∵ enter ! C Λ (function n) (slice_val (b, o) (length xs) ∷ vint w64 m ∷ vint w64 e ∷ []) _ $
        alloc_all ! (λ l. pass_all ! refl ((tt, (tt, (record { fits = rm.0 }, tt))), ((tt, record { fits = fm }), ((tt, record { fits = fe }), tt))) $
        let En : Env 𝓤 H = env (function n).locals l in
        -- let len = words.len();
        sets ! (of_opd ! (get_in ! (fld ! refl (stop !)) (sub ! 1 refl (whole !)))) refl (tt, record { fits = fn }) $
        -- let start = words.as_mut_ptr();
        sets ! (addr ! (from ! (fld ! refl (hop ! (look_in_at ! 1 (sub ! 0 refl (whole !))) (stop !))))) refl (tt, tt) $
        first ! $ blocks ! $
        -- from_raw_parts_mut(start as *mut [u64; N], count)
        sets ! (of_opd ! (get ! refl)) refl (tt, tt) $
        sets ! (agg ! (and_then ! (get ! refl) (and_then ! (get ! refl) (no_more !)))) refl (tt, (tt, (record { fits = fm }, tt))) $
        -- from_raw_parts_mut(start.add(mid), len - mid)
        sets ! (bin ! (get ! refl) (lit ! tt) (record { fits = fo })) refl (tt, record { fits = fo }) $
        sets ! (bin ! (get ! refl) (get ! refl) tt) refl (tt, tt) $
        sets ! (bin ! (get ! refl) (get ! refl) le) refl (tt, record { fits = fr }) $
        sets ! (agg ! (and_then ! (get ! refl) (and_then ! (get ! refl) (no_more !)))) refl (tt, (tt, (record { fits = fr }, tt))) $
        -- the pair
        sets_last ! (agg ! (and_then ! (get ! refl) (and_then ! (get ! refl) (no_more !)))) refl (tt, ((tt, (record { fits = fm }, tt)), ((tt, (record { fits = fr }, tt)), tt))) $
        exec ! C Λ En rest (at_ret En Post) $
        sets ! (of_opd ! (get ! refl)) refl (tt, ((tt, (record { fits = fm }, tt)), ((tt, (record { fits = fr }, tt)), tt))) $
        split ! $ move ! (2 ∷ []) $ fsplit ! $ move ! (0 ∷ 2 ∷ []) $
        use2 𝓛 (later (some (items_lent 𝓛 (named 0) κ q b o γ n m xs within (e * 8 + o) on))) (lends_items 𝓛 (named 0) κ q b o γ n m xs within (e * 8 + o) on roomy behind_room (mut_slice_vals self)) $ await ! tt $ pick ! (λ δ.
        split3 ! $ nothing ! $ move ! (2 ∷ 0 ∷ []) $ fjoin ! $ move ! (1 ∷ 0 ∷ []) $ fjoin ! $
        feq_i ! (List Val) (v ∷ []) (vstruct (vcons (slice_val (b, o) (length ys)) (vcons (slice_val (b, e * 8 + o) (length back)) vnil)) ∷ []) (λ k. vstruct (vcons (slice_val (b, o) (sym many k)) (vcons (slice_val (b, e * 8 + o) (sym lb k)) vnil)) ∷ []) $ fjoin ! $
        fpack ! (Valss halves) (laid_within (shape (tuple_type halves)) (one δ, (two δ, tt)) (v ∷ [])) (slice_val (b, o) (length ys) ∷ [], (slice_val (b, e * 8 + o) (length back) ∷ [], tt)) $
        move ! (1 ∷ []) $ split ! $ move ! (2 ∷ 0 ∷ 1 ∷ []) $
        returns ! (look_at ! 0 refl) $ free_all ! refl $ keep ! (0 ∷ 1 ∷ 2 ∷ 4 ∷ []) $
        suffices ! _ (ends_at 𝓛 (ended n) (stayed n) clauses bound v (one δ, two δ) (tt, (tt, (tt, tt))) (tt, (tt, (tt, tt)))) $
        nothing ! $ nothing ! $ fjoin ! $ nothing ! $ fjoin ! $ nothing ! $ fjoin ! $ join ! $ move ! (1 ∷ 3 ∷ []) $ join ! $ join ! $ frame ! $ says ! (refl, ap (λ (k : ℕ). drop_list k xs) exact) $ done !))

  meets : (𝓣 : Tables 𝓤 H) → Meets 𝓛 (ended n).signature (WpFn 𝓤 H 𝓣.C 𝓣.Λ (function n)) (closing 𝓛 (ended n) clauses)
  meets 𝓣 =
      walk_Meets 𝓛 (ended n) (stayed n) (Goes-spent_slice 𝓛 2 (0 ∷ []) tt (plain (λ _. u64)), (Goes-dropped 𝓛 2 (plain (λ _. usize)) yes (λ κs x f. refl), (Goes-dropped 𝓛 2 (plain (λ _. usize)) yes (λ κs x f. refl), tt))) clauses (WpFn 𝓤 H 𝓣.C 𝓣.Λ (function n)) (WpFn-mono 𝓤 H 𝓛.laws 𝓣 (function n))
      (walked 𝓛 (ended n) (stayed n) clauses (WpFn 𝓤 H 𝓣.C 𝓣.Λ (function n)) (λ κs. (mut_slice_vals, (uint_vals w64, (uint_vals w64, tt)))) (λ κs. (mut_slice_Tells (named 0) κs.0 u64, (uint_Tells w64, (uint_Tells w64, tt))))
      (λ κs qs bounds a g are.
      let On : SProp 𝓤 = on_entry 𝓛 (ended n).signature κs qs a (mut_slice_vals a.0, (vint w64 a.1.0 ∷ [], (vint w64 a.1.1.0 ∷ [], tt))) in
      qed 𝓛 (raw On ∷ (given (κs.1.0 ⊑ []) (‵ ftrue) ⊛ given (n * 8 < 2 ^ 63) (‵ ftrue) ⊛ given (a.1.0 * n ≡ a.1.1.0) (‵ ftrue) ⊛ given (a.1.1.0 ≤ length a.0.now) (‵ ftrue)) ∷ []) ∵
      move ! (1 ∷ []) $ split3 ! $ drop ! $ drop ! $ split ! $ learn ! (λ exact. drop ! $ learn ! (λ le. drop ! $
      by ! (walk 𝓣.C 𝓣.Λ κs.0 κs.1.0 qs.0 qs.1.0 bounds a.0.ref_ptr.0 a.0.ref_ptr.1 a.0.ghost_name a.0.now a.1.0 a.1.1.0 are.0.0.1 are.1.0.1 are.1.1.0.1 exact le)))))

pub split_items_mut_spec : {M : Type 1} → stated.statement M
unfolding tables_of
split_items_mut_spec 𝓤 𝓛 𝓜 𝓡 wired n fits =
    let 𝓣 : Tables 𝓤 𝓛.H = tables_of 𝓤 𝓛.H 𝓜 (tables 𝓤 𝓛.H 𝓜 𝓡 𝓡.env) in
    entered 𝓤 𝓛.H (triple_of 𝓛 (ended n).signature (F.spec (number n) 𝓛 𝓜.mem 𝓡.returns)) 𝓣.C 𝓣.Λ (#self (args n)) (function n) (code.unfolded 𝓤 𝓛.H 𝓜 𝓡 wired (number n, tt))
    (meets n 𝓛 𝓜.mem 𝓡.returns 𝓣)
