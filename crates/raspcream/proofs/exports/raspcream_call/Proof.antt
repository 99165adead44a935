-- `raspcream_call` meets its contract: the value behind the pointer is lent for a lifetime that is made for the call of `call`, and comes back once it is ended.
use Rattle.std.proofs.Common.{ℕ, [], ◌∷◌, refl, w32, w64}
use Rattle.std.proofs.raw_atomic.Walks.{proved}
use Rattle.std.specs.Ptr.{points_to}
use base.Fraction.{full_share}
use base.Logic.{ex, sep, id⊢}
use base.Fml.{ftrue, flft, flent}
use mir.Syntax.{named}
use mir.Val.{vptr}
use prog.Wp.{WpFn}
use contract.Monad.{fact}
use contract.Running.{tables}
use types.Logic.{sem}
use types.SemTy.{Body}
use types.Kit.{show, ‵, raw, ◌⊛◌, some, later, prop, at_ret, ◌$◌, ◌∵◌, !, qed, done, move, keep, drop, use1, use2, use3, split, join, fsplit, pick, await, regoal, suffices, group}
use types.Run.{enter, of_opd, addr, stop, no_more, and_then, first, blocks, exec, returns}
use types.ByLocal.{alloc_all, pass_all, free_all, look_at, get, through, sets, sets_last, lands_as, env}
use types.Tokens.{lft_new, lft_end}
use denote.Builtin.{u8, u32, u64, SliceRefOf}
use denote.Exit.{yes}
use denote.Laws.{shows}
use denote.Memory.{mem}
use denote.Plain.{uint_Makes, uint_vals, uint_Tells, uint_Lawful}
use denote.RawPtr.{Ptr, RawPtr, block_ptr, in_a_block, rawptr_vals, rawptr_Tells}
use denote.Ref.{MutRef, mut_vals, mut_Tells}
use denote.Slice.{ShrSlice, shr_slice_vals, shr_slice_Tells}
use denote.Signature.{plain}
use denote.Steps.{heard, nothing, owned, peeks}
use denote.Lend.{lends_ref, ref_back}
use denote.Triple.Call.{calls_at}
use denote.Triple.Clauses.{lasts}
use denote.Triple.Spec.{triple_of}
use denote.Triple.Walked.{says, Stays, walk_of, stay_dropped, Goes-dropped, gave_ref, Goes-gave_ref, ends_at}
use denote.Triple.Table.{framed}
use Rattle.std.proofs.VecSteps.Shapes.{after}
use Rattle.raspcream.specs.contracts.exports.raspcream_call as f
use Rattle.raspcream.proofs.exports.raspcream_call.Statement.{statement}
use Rattle.raspcream.proofs.exports.raspcream_call.Code as code
use Rattle.raspcream.specs.contracts.call.call as g
use Rattle.raspcream.proofs.call.call.Met.{met}
use Rattle.raspcream.specs.Calls.{IsCalled}
use Rattle.raspcream.specs.contracts.machine.Machine.{the_row as M}
use Rattle.raspcream.specs.contracts.reply.Reply.{the_row as R}

abbrev stayed : Stays f.ended.signature.params f.ended.kept
stayed = (stay_dropped _ yes, (stay_dropped _ yes, (stay_dropped _ yes, (stay_dropped _ yes, (gave_ref (1 ∷ []) tt (plain (λ _. R)), tt)))))

pub raspcream_call_spec : {M : Type 1} → statement M
raspcream_call_spec 𝓤 𝓛 𝓜 𝓡 wired =
    let c = f.clauses 𝓛 𝓜.mem 𝓡.returns in let W = walk_of 𝓛 f.ended stayed c in let 𝓣 = tables 𝓤 𝓛.H 𝓜 𝓡 𝓡.env in
    proved 𝓛 f.ended stayed c 𝓜 𝓡
    (Goes-dropped 𝓛 2 (plain (λ _. RawPtr)) yes (λ κs x w. refl), (Goes-dropped 𝓛 2 (plain (λ _. u32)) yes (λ κs x w. refl), (Goes-dropped 𝓛 2 (plain (λ _. u64)) yes (λ κs x w. refl), (Goes-dropped 𝓛 2 (SliceRefOf (0 ∷ []) tt (plain (λ _. u8)) (λ κs. tt)) yes (λ κs x w. refl), (Goes-gave_ref 𝓛 2 1 tt (plain (λ _. R)), tt)))))
    f.Key.name code.function (code.unfolded 𝓤 𝓛.H 𝓜 𝓡 wired)
    (λ κs. (rawptr_vals, (uint_vals w32, (uint_vals w64, (shr_slice_vals, (mut_vals, tt))))))
    (λ κs. (rawptr_Tells, (uint_Tells w32, (uint_Tells w64, (shr_slice_Tells (named 0) κs.0 u8, (mut_Tells (named 1) κs.1.0 R, tt))))))
    (λ κs qs bounds a m are.
    let κ = κs.0 in let κ' = κs.1.0 in let op = a.1.0 in let num = a.1.1.0 in let dat = a.1.1.1.0 in let out = a.1.1.1.1.0 in
    let y : Ptr → W.Ghost = λ p. ((κs, qs, bounds, (p, a.1), (rawptr_vals p, (uint_vals w32 op, (uint_vals w64 num, (shr_slice_vals dat, (mut_vals out, tt)))))), m) in
    let Out = (MutRef (named 1) κ' R).own_val out (mut_vals out) in
    let Dat = (ShrSlice (named 0) κ u8).own_val dat (shr_slice_vals dat) in
    qed 𝓛 (((‵ (flft κ qs.0) ⊛ ‵ (flft κ' qs.1.0) ⊛ ‵ ftrue) ⊛ ‵ (RawPtr.own_val a.0 (rawptr_vals a.0)) ⊛ ‵ (u32.own_val op (uint_vals w32 op)) ⊛ ‵ (u64.own_val num (uint_vals w64 num)) ⊛
    ‵ Dat ⊛ ‵ Out ⊛ ‵ ftrue) ∷ ‵ (points_to M a.0 m) ∷ []) ∵
    split ! $ move ! (1 ∷ []) $ split ! $ drop ! $ split ! $ drop ! $ split ! $ drop ! $ split ! $ move ! (1 ∷ []) $ split ! $ move ! (2 ∷ 0 ∷ 4 ∷ 3 ∷ []) $
    -- [Dat; Out; the value; the tokens; nothing]
    move ! (2 ∷ []) $ in_a_block ! a.0 (λ p. points_to M p m) (id⊢ 𝓤 _) (λ b o e.
    regoal ! (λ p. prop (WpFn 𝓤 𝓛.H 𝓣.C 𝓣.Λ code.function (W.args (y p)) (W.post (y p)))) e refl $
    -- [the value; Dat; Out; the tokens; nothing]
    enter ! _ _ _ _ _ $ alloc_all ! (λ l. pass_all ! refl ((tt, tt), ((tt, record { fits = are.1.0.1 }), ((tt, record { fits = are.1.1.0.1 }), ((tt, (tt, (record { fits = are.1.1.1.0.0.1.0 }, tt))), ((tt, tt), tt))))) $
    first ! $ blocks ! $
    sets ! (of_opd ! (get ! refl)) refl (tt, tt) $
    sets_last ! (addr ! (through ! refl (stop !))) refl (tt, tt) $
    exec ! 𝓣.C 𝓣.Λ (env code.Mir.locals l) (after 1 (code.function).body) (at_ret _ (W.post (y (block_ptr b o)))) $
    sets ! (of_opd ! (get ! refl)) refl (tt, tt) $
    sets ! (addr ! (through ! refl (stop !))) refl (tt, tt) $
    sets ! (addr ! (through ! refl (stop !))) refl (tt, tt) $
    lft_new ! tt (λ α. move ! (1 ∷ []) $
    -- [the value; the token of α; Dat; Out; the tokens; nothing]
    use1 𝓛 (later (some (λ (γ : ℕ). ‵ ((MutRef (named 0) (α ∷ []) M).own_val (record { ref_ptr = (b, o); ghost_name = γ; now = m }) (vptr b o ∷ [])) ⊛ ‵ (flent (α ∷ []) (Body (mem M) b o γ)))))
    (lends_ref 𝓛 M (named 0) (α ∷ []) m b o) $ await ! tt $ pick ! (λ γ. split ! $
    -- [the loan; the lender's part; the token of α; Dat; Out; the tokens; nothing]
    let G = triple_of 𝓛 g.signature (g.spec 𝓛 𝓜.mem 𝓡.returns) in
    let z : G.Ghost = (
      (
        (α ∷ [], (κ, (κ', tt))),
        (full_share, (qs.0, (qs.1.0, tt))),
        tt,
        (record { ref_ptr = (b, o); ghost_name = γ; now = m }, (op, (num, (dat, (out, tt))))),
        (vptr b o ∷ [], (uint_vals w32 op, (uint_vals w64 num, (shr_slice_vals dat, (mut_vals out, tt))))),
      ),
      tt,
    ) in
    nothing ! $ move ! (5 ∷ 0 ∷ []) $ join ! $ move ! (4 ∷ 0 ∷ []) $ join ! $
    owned ! u64 _ (uint_Makes 𝓛 w64) num _ (refl, are.1.1.0.1) $ join ! $ owned ! u32 _ (uint_Makes 𝓛 w32) op _ (refl, are.1.0.1) $ join ! $ move ! (1 ∷ 0 ∷ []) $ join ! $ move ! (2 ∷ 3 ∷ []) $ join ! $
    join ! $ move ! (0 ∷ 2 ∷ []) $ use2 𝓛 (raw (G.pre z)) (id⊢ 𝓤 _) $
    calls_at ! (framed 𝓤 𝓛.H 𝓜 (tables 𝓤 𝓛.H 𝓜 𝓡 𝓡.env)) G (met 𝓤 𝓛 𝓜 𝓡 (code.calls-raspcream::call::call 𝓡.env wired)) z
    (and_then ! (get ! refl) (and_then ! (get ! refl) (and_then ! (get ! refl) (and_then ! (get ! refl) (and_then ! (get ! refl) (no_more !)))))) (λ v.
    use1 𝓛 (later (some (λ (r : ℕ). ((‵ (flft (α ∷ []) full_share) ⊛ ‵ (flft κ qs.0) ⊛ ‵ (flft κ' qs.1.0) ⊛ ‵ ftrue) ⊛ ‵ (u32.own_val r (v ∷ []))) ⊛
    some (λ (ws : M.Denot × (Unit {0} × (Unit {0} × (Unit {0} × (R.Denot × Unit {0}))))). ‵ (lasts g.ended z.0.0 z.0.3 ws) ⊛ raw (fact 𝓤 (IsCalled op num dat.now m r ws.1.1.1.1.0 ws.0)))))) (id⊢ 𝓤 _) $
    await ! tt $ pick ! (λ r. split ! $ split ! $ split ! $ lft_end ! tt $
    -- [α is over; the tokens; the result; the last values; the lender's part]
    move ! (3 ∷ []) $ pick ! (λ ws. split ! $ move ! (1 ∷ []) $ heard ! _ (λ holds. fsplit ! $ fsplit ! $
    -- [the loan's last value; its borrow; the other parameters; α is over; the tokens; the result; the lender's part]
    move ! (3 ∷ 6 ∷ 0 ∷ []) $ use3 𝓛 (later (‵ (points_to M (block_ptr b o) ws.0))) (ref_back 𝓛 M (α ∷ []) γ ws.0 b o) $ await ! tt $
    move ! (2 ∷ []) $ fsplit ! $ drop ! $ fsplit ! $ drop ! $ fsplit ! $ drop ! $ fsplit ! $
    -- [out's last value; nothing; the value; the borrow; the tokens; the result]
    move ! (5 ∷ []) $ peeks ! u32 _ (shows 𝓛 u32) r (v ∷ []) (λ is. lands_as ! refl refl ((uint_Lawful 𝓛 w32).typed r _ is).0 $
    returns ! (look_at ! 0 refl) $ free_all ! refl $
    suffices ! _ (ends_at 𝓛 f.ended stayed c (y (block_ptr b o)) v r (tt, (tt, (tt, (tt, (ws.1.1.1.1.0, tt))))) (tt, (tt, (tt, (tt, (tt, tt)))))) $
    nothing ! $ move ! (2 ∷ 0 ∷ []) $ join ! $ nothing ! $ join ! $ nothing ! $ join ! $ nothing ! $ join ! $ nothing ! $ join ! $
    keep ! (3 ∷ 5 ∷ 0 ∷ 1 ∷ []) $
    let After = λ (u : M.Denot). sep 𝓤 (sem 𝓛 (points_to M (block_ptr b o) u)) (fact 𝓤 (IsCalled op num dat.now m r ws.1.1.1.1.0 u)) in
    use1 𝓛 (raw (ex 𝓤 After)) (qed 𝓛 (‵ (points_to M (block_ptr b o) ws.0) ∷ []) ∵ show ! After ws.0 $ says ! holds $ done !) $
    move ! (1 ∷ 2 ∷ 3 ∷ []) $ group ! 3 $ done !))))))))))
