-- Words are lent on as items of n words each over the same memory, beside the words behind them, and end as their last values say. Assumes `Logic`.
use mathlib.Core.Path.{◌≡◌, refl, sym, ap, ap₂, ◌∙◌}
use Prim.Native.Nat.{ℕ, zero, suc, ◌+◌, ◌*◌, ◌≤◌}
use native.Mathlib.Nat.{suc-mul, add_comm}
use native.Mathlib.Omega.{arith}
use mathlib.Core.List.{List, [], ◌∷◌, ◌++◌}
use lib.ListN.{length, take, drop as drop_list, take-append-drop, length-append}
use Rattle.std.proofs.lemmas.List.{take-take, drop-take}
use seplogic.Ra.Ura.{Ura}
use mir.Syntax.{Lifetime}
use mir.Val.{Val}
use base.Logic.{SProp, ent, sep, ex, emp, guard}
use base.Stored.{coded_list}
use base.Fml.{Lft, GName, Share, flft, fobs, fbor}
use types.Logic.{Logic, sem}
use types.Kit.{Item, ‵, ◌⊛◌, raw, ◌$◌, ◌∵◌, !, qed, move, keep, drop, fsplit, fsplit3, fjoin, updating, await, later, some, use1, use2, group, pick, now, show, done, split3, rewrite, feq_l, feq_i, split, given, learn, check}
use types.SemTy.{SemTy, cells, Arr, Body}
use types.Follow.{after₂, takes_two}
use types.Mut.{open_ref}
use denote.Builtin.{u64}
use denote.Memory.{mem}
use denote.Array.{Array}
use denote.Slice.{MutSlice, Room, slice_val}
use denote.Steps.{nothing}
use denote.FollowSlice.{heres_id, slice_of}
use borrow.Table.Elements.{at, at_mul, cut_app, join_app, length-take-le}
use Rattle.std.specs.List.{flat_map}
use Rattle.std.specs.Simd.{first_chunks}
use Rattle.words.specs.Items.{words_of}
use Rattle.words.proofs.Chunks.{words_all}
use Rattle.std.proofs.slice.Relends.{length-first_chunks, array_in, array_out, runs_in, runs_out}

-- chunks are read of the words before their end alone
chunks_of_front : {X : Type 0} (n k : ℕ) (xs : List X) → first_chunks n k (take (k * n) xs) ≡ first_chunks n k xs
chunks_of_front n zero xs = refl
chunks_of_front {X} n (suc k) xs =
    let step : suc k * n ≡ n + k * n = suc-mul k n ∙ add_comm (k * n) n in
    rw step (ap₂ (λ (c : List X) (cs : List (List X)). c ∷ cs) (take-take n (n + k * n) xs (omega arith)) (ap (first_chunks n k) (drop-take n (k * n) xs) ∙ chunks_of_front n k (drop_list n xs)))

module _ {M : Type 1} {𝓤 : Ura M} (𝓛 : Logic 𝓤) (ℓ : Lifetime) (κ : Lft) (q : Share) (b o : ℕ) (γ : GName) (n k : ℕ) (xs : List ℕ) (within : k * n ≤ length xs) (p : ℕ) (on : k * n * 8 + o ≡ p) where
  open 𝓛 use {H, A}

  abbrev front : List ℕ
  front = take (k * n) xs

  abbrev back : List ℕ
  back = drop_list (k * n) xs

  abbrev ys : List (List ℕ)
  ys = first_chunks n k xs

  -- words in memory, and items of n words
  abbrev Words : ℕ → SemTy
  Words = Arr (mem u64)

  abbrev Items : ℕ → SemTy
  Items = Arr (mem (Array u64 n))

  abbrev ends : List (List ℕ) → List ℕ → List ℕ
  ends ws zs = words_of n ws ++ zs

  -- items in memory have n words each
  each_whole : (ws : List (List ℕ)) (o : ℕ) → ent 𝓤 (sem 𝓛 (cells (mem (Array u64 n)) ws b o)) (guard 𝓤 (words_of n ws ≡ flat_map (λ x. x) ws) (sem 𝓛 (cells (mem (Array u64 n)) ws b o)))
  each_whole [] o = qed 𝓛 (‵ (cells (mem (Array u64 n)) [] b o) ∷ []) ∵ check ! refl $ done !
  each_whole (w ∷ ws) o =
      qed 𝓛 (‵ (cells (mem (Array u64 n)) (w ∷ ws) b o) ∷ []) ∵ fsplit ! $
      use1 𝓛 (given (length w ≡ n) (‵ (cells (mem u64) w b o))) (array_out 𝓛 u64 tt n b w o) $ learn ! (λ e.
      use1 𝓛 (‵ ((mem (Array u64 n)).own_at w b o)) (array_in 𝓛 u64 tt n b w o e) $ move ! (1 ∷ []) $
      use1 𝓛 (given (words_of n ws ≡ flat_map (λ x. x) ws) (‵ (cells (mem (Array u64 n)) ws b (o + n * 8)))) (each_whole ws (o + n * 8)) $ learn ! (λ all.
      check ! (ap₂ (λ (x y : List ℕ). x ++ y) (words_all n w e) all) $ move ! (1 ∷ 0 ∷ []) $ fjoin ! $ done !))

  long : length front ≡ k * n
  long = length-take-le (k * n) xs within

  behind : at o 8 (length front) ≡ p
  behind = at_mul o 8 (length front) ∙ ap (λ (j : ℕ). j * 8 + o) long ∙ on

  put_back : (ws : List (List ℕ)) (zs : List ℕ) → ent 𝓤 (sep 𝓤 (sem 𝓛 ((Items (length ys)).own_at ws b o)) (sep 𝓤 (sem 𝓛 ((Words (length back)).own_at zs b p)) (emp 𝓤))) (sem 𝓛 ((Words (length xs)).own_at (ends ws zs) b o))
  put_back ws zs =
      let all_words : length xs ≡ length front + length back = ap length (sym (take-append-drop (k * n) xs)) ∙ length-append front back in
      let all_ended : length (ends ws zs) ≡ length (words_of n ws) + length zs = length-append (words_of n ws) zs in
      qed 𝓛 (‵ ((Items (length ys)).own_at ws b o) ∷ ‵ ((Words (length back)).own_at zs b p) ∷ raw (emp 𝓤) ∷ []) ∵ fsplit ! $ feq_l ! (λ many.
      use1 𝓛 (given (words_of n ws ≡ flat_map (λ x. x) ws) (‵ (cells (mem (Array u64 n)) ws b o))) (each_whole ws o) $ learn ! (λ all.
      use1 𝓛 (given (length (flat_map (λ x. x) ws) ≡ length ws * n) (‵ (cells (mem u64) (flat_map (λ x. x) ws) b o))) (runs_out 𝓛 u64 tt n b ws o) $ learn ! (λ l.
      rewrite ! 0 (λ (vs : List ℕ). ‵ (cells (mem u64) vs b o)) (sym all) refl $
      let as_long : length (words_of n ws) ≡ length front = ap length all ∙ l ∙ ap (λ (j : ℕ). j * n) (many ∙ length-first_chunks n k xs) ∙ sym long in
      move ! (1 ∷ []) $ fsplit ! $ feq_l ! (λ rest. rewrite ! 0 (λ (j : ℕ). ‵ (cells (mem u64) zs b j)) (sym (ap (at o 8) as_long ∙ behind)) refl $ move ! (1 ∷ 0 ∷ []) $
      use2 𝓛 (‵ (cells (mem u64) (ends ws zs) b o)) (join_app 𝓛 (mem u64) (words_of n ws) zs b o) $
      feq_i ! ℕ (length (ends ws zs)) (length xs) (omega arith) $ fjoin ! $ keep ! (0 ∷ []) $ done !))))

  -- the items and the words behind them under names of their own, the token, and what the words end as
  abbrev pub items_lent : GName × GName → Item 𝓤
  items_lent δ = ‵ ((MutSlice ℓ κ (Array u64 n)).own_val (record { ref_ptr = (b, o); ghost_name = δ.0; now = ys }) (slice_val (b, o) (length ys) ∷ [])) ⊛ ‵ ((MutSlice ℓ κ u64).own_val (record { ref_ptr = (b, p); ghost_name = δ.1; now = back }) (slice_val (b, p) (length back) ∷ [])) ⊛ ‵ (flft κ q) ⊛ ‵ (after₂ (Words 0) (Items 0) (Words 0) γ δ.0 δ.1 ends)

  abbrev ItemsLent : GName × GName → SProp 𝓤
  ItemsLent δ = sep 𝓤 (sem 𝓛 ((MutSlice ℓ κ (Array u64 n)).own_val (record { ref_ptr = (b, o); ghost_name = δ.0; now = ys }) (slice_val (b, o) (length ys) ∷ []))) (sep 𝓤 (sem 𝓛 ((MutSlice ℓ κ u64).own_val (record { ref_ptr = (b, p); ghost_name = δ.1; now = back }) (slice_val (b, p) (length back) ∷ []))) (sep 𝓤 (A.lft κ q) (sem 𝓛 (after₂ (Words 0) (Items 0) (Words 0) γ δ.0 δ.1 ends))))

  pub lends_items : Room (Array u64 n) (length ys) → Room u64 (length back) → (vs : List Val)
      → ent 𝓤 (sep 𝓤 (sem 𝓛 ((MutSlice ℓ κ u64).own_val (record { ref_ptr = (b, o); ghost_name = γ; now = xs }) vs)) (A.lft κ q)) (H.⇛ (ex 𝓤 ItemsLent))
  lends_items roomy behind_room vs = qed 𝓛 (‵ ((MutSlice ℓ κ u64).own_val (record { ref_ptr = (b, o); ghost_name = γ; now = xs }) vs) ∷ ‵ (flft κ q) ∷ []) ∵ updating ! $ fsplit3 ! $ drop ! $
      rewrite ! 0 (λ (l : List ℕ). ‵ (fobs γ ((coded_list u64.coded).code l))) (heres_id u64 xs) refl $ open_ref ! tt (Words (length xs)) {b = b} {o = o} $ fsplit ! $ drop ! $
      rewrite ! 0 (λ (l : List ℕ). ‵ (cells (mem u64) l b o)) (sym (take-append-drop (k * n) xs)) refl $
      use1 𝓛 (‵ (cells (mem u64) front b o) ⊛ ‵ (cells (mem u64) back b (at o 8 (length front)))) (cut_app 𝓛 (mem u64) front back b o) $ split ! $
      rewrite ! 1 (λ (j : ℕ). ‵ (cells (mem u64) back b j)) behind refl $
      use1 𝓛 (‵ (cells (mem (Array u64 n)) (first_chunks n k front) b o)) (runs_in 𝓛 u64 tt n b k front o (sym long)) $ rewrite ! 0 (λ (l : List (List ℕ)). ‵ (cells (mem (Array u64 n)) l b o)) (chunks_of_front n k xs) refl $
      feq_i ! ℕ (length ys) (length ys) refl $ fjoin ! $ move ! (1 ∷ []) $ feq_i ! ℕ (length back) (length back) refl $ fjoin ! $ nothing ! $ move ! (3 ∷ 4 ∷ 5 ∷ 2 ∷ 1 ∷ 0 ∷ []) $ group ! 6 $
      use1 𝓛 (later (some (λ (δ : GName × GName). (‵ (fobs δ.0 ((coded_list (Array u64 n).coded).code ys)) ⊛ ‵ (fbor κ (Body (Items (length ys)) b o δ.0))) ⊛ (‵ (fobs δ.1 ((coded_list u64.coded).code back)) ⊛ ‵ (fbor κ (Body (Words (length back)) b p δ.1))) ⊛ ‵ (flft κ q) ⊛ ‵ (after₂ (Words 0) (Items 0) (Words 0) γ δ.0 δ.1 ends))))
      (takes_two 𝓛 (Words (length xs)) (Items (length ys)) (Words (length back)) ends κ q b o b o b p γ (emp 𝓤) put_back ((coded_list u64.coded).code xs) ((coded_list u64.coded).code xs) ys back) $ await ! tt $ pick ! (λ δ. split3 ! $
      use1 𝓛 (‵ ((MutSlice ℓ κ (Array u64 n)).own_val (record { ref_ptr = (b, o); ghost_name = δ.0; now = ys }) (slice_val (b, o) (length ys) ∷ []))) (slice_of 𝓛 (Array u64 n) ℓ κ b o δ.0 ys roomy) $ move ! (1 ∷ []) $
      use1 𝓛 (‵ ((MutSlice ℓ κ u64).own_val (record { ref_ptr = (b, p); ghost_name = δ.1; now = back }) (slice_val (b, p) (length back) ∷ []))) (slice_of 𝓛 u64 ℓ κ b p δ.1 back behind_room) $ move ! (1 ∷ 0 ∷ []) $ now ! $ show ! ItemsLent δ $ done !)
