-- `raspcream_drop` meets its contract: the value is read out of its place, and handed to `release`.
use Rattle.std.proofs.Common.{[], ◌∷◌, refl, ap}
use Rattle.std.proofs.raw_atomic.Walks.{proved}
use Rattle.std.specs.Ptr.{points_to}
use base.Fraction.{full_share}
use base.Logic.{id⊢}
use base.Fml.{ftrue, fat}
use mir.Val.{Val, vunit}
use prog.Wp.{WpFn}
use contract.Running.{tables}
use types.Kit.{‵, raw, ◌⊛◌, some, later, prop, at_ret, ◌$◌, ◌∵◌, !, qed, done, move, keep, drop, use1, use2, split, join, feq_i, feq_l, pick, await, regoal, suffices, group}
use types.Run.{enter, of_opd, load, look, stop, no_more, and_then, unit_lit, first, blocks, exec, returns, forget}
use types.ByLocal.{alloc_all, pass_all, free_all, look_at, get, through, sets, sets_last, lands_as, env}
use denote.Builtin.{unit}
use denote.Exit.{yes}
use denote.Memory.{lone}
use denote.Laws.{Is, shows}
use denote.RawPtr.{Ptr, RawPtr, block_ptr, in_a_block, rawptr_vals, rawptr_Tells, room_at}
use denote.Signature.{plain}
use denote.Steps.{nothing, peeks, only}
use denote.Triple.Call.{calls_at}
use denote.Triple.Clauses.{Lasts, lasts}
use denote.Triple.Spec.{triple_of}
use denote.Triple.Walked.{Stays, walk_of, stay_dropped, Goes-dropped, ends_at}
use denote.Triple.Table.{framed}
use borrow.Table.OneValue.{part_out}
use Rattle.std.proofs.VecSteps.Shapes.{after}
use Rattle.raspcream.specs.contracts.exports.raspcream_drop as f
use Rattle.raspcream.proofs.exports.raspcream_drop.Statement.{statement}
use Rattle.raspcream.proofs.exports.raspcream_drop.Code as code
use Rattle.raspcream.specs.contracts.exports.release as g
use Rattle.raspcream.proofs.exports.release.Met.{met}
use Rattle.raspcream.specs.contracts.machine.Machine.{the_row as M}
use Rattle.raspcream.proofs.machine.Machine.TheLaws.{the_row_laws}

abbrev stayed : Stays f.ended.signature.params f.ended.kept
stayed = (stay_dropped _ yes, tt)

pub raspcream_drop_spec : {M : Type 1} → statement M
raspcream_drop_spec 𝓤 𝓛 𝓜 𝓡 wired =
    let c = f.clauses 𝓛 𝓜.mem 𝓡.returns in let W = walk_of 𝓛 f.ended stayed c in let 𝓣 = tables 𝓤 𝓛.H 𝓜 𝓡 𝓡.env in
    proved 𝓛 f.ended stayed c 𝓜 𝓡 (Goes-dropped 𝓛 0 (plain (λ _. RawPtr)) yes (λ κs x w. refl), tt)
    f.Key.name code.function (code.unfolded 𝓤 𝓛.H 𝓜 𝓡 wired)
    (λ κs. (rawptr_vals, tt)) (λ κs. (rawptr_Tells, tt)) (λ κs qs bounds a m are.
    let y : Ptr → W.Ghost = λ p. ((κs, qs, bounds, (p, tt), (rawptr_vals p, tt)), m) in
    qed 𝓛 ((‵ ftrue ⊛ ‵ (RawPtr.own_val a.0 (rawptr_vals a.0)) ⊛ ‵ ftrue) ∷ ‵ (points_to M a.0 m) ∷ []) ∵
    split ! $ keep ! (0 ∷ 2 ∷ []) $ move ! (1 ∷ []) $
    in_a_block ! a.0 (λ p. points_to M p m) (id⊢ 𝓤 _) (λ b o e.
    regoal ! (λ p. prop (WpFn 𝓤 𝓛.H 𝓣.C 𝓣.Λ code.function (W.args (y p)) (W.post (y p)))) e refl $
    use1 𝓛 (some (λ (v : Val). ‵ (fat full_share (lone M.mir) b o v) ⊛ ‵ (M.own_val m (v ∷ [])))) (part_out 𝓛 M refl full_share m b o) $ pick ! (λ v. split ! $ move ! (1 ∷ []) $
    peeks ! M (Is M) (shows 𝓛 M) m (v ∷ []) (λ is.
    let t = ((the_row_laws.lawful 𝓛).typed m (v ∷ []) is).0 in
    -- [the value; its cell; the tokens]
    enter ! _ _ _ _ _ $ alloc_all ! (λ l. pass_all ! refl ((tt, tt), tt) $
    first ! $ blocks ! $
    sets ! (of_opd ! (get ! refl)) refl (tt, tt) $
    sets_last ! (of_opd ! (load ! (through ! refl (stop !)) (look ! 1 refl))) refl t $
    exec ! 𝓣.C 𝓣.Λ (env code.Mir.locals l) (after 1 (code.function).body) (at_ret _ (W.post (y (block_ptr b o)))) $
    sets ! (of_opd ! (get ! refl)) refl t $
    sets ! (of_opd ! (get ! refl)) refl t $ forget ! 1 refl $
    -- [the value; its room; the tokens]
    let G = triple_of 𝓛 g.signature (g.spec 𝓛 𝓜.mem 𝓡.returns) in
    let z : G.Ghost = ((tt, tt, tt, (m, tt), (v ∷ [], tt)), tt) in
    nothing ! $ move ! (1 ∷ 0 ∷ []) $ join ! $ move ! (2 ∷ 0 ∷ []) $ join ! $ nothing ! $ move ! (1 ∷ 0 ∷ []) $ use2 𝓛 (raw (G.pre z)) (id⊢ 𝓤 _) $
    calls_at ! (framed 𝓤 𝓛.H 𝓜 (tables 𝓤 𝓛.H 𝓜 𝓡 𝓡.env)) G (met 𝓤 𝓛 𝓜 𝓡 (code.calls-raspcream::exports::release 𝓡.env wired)) z
    (and_then ! (get ! refl) (no_more !)) (λ v'.
    use1 𝓛 (later (some (λ (r : Unit {0}). (‵ ftrue ⊛ ‵ (unit.own_val r (v' ∷ []))) ⊛
    some (λ (ws : Lasts g.ended z.0.0 z.0.3). ‵ (lasts g.ended z.0.0 z.0.3 ws) ⊛ ‵ ftrue)))) (id⊢ 𝓤 _) $
    await ! tt $ pick ! (λ r. split ! $ split ! $ drop ! $ feq_l ! (λ is_unit. pick ! (λ ws. split ! $ drop ! $ drop ! $
    lands_as ! (ap only is_unit) refl (tt, tt) $
    sets ! (of_opd ! (unit_lit !)) refl (tt, tt) $
    returns ! (look_at ! 0 refl) $ free_all ! refl $
    suffices ! _ (ends_at 𝓛 f.ended stayed c (y (block_ptr b o)) vunit tt (tt, tt) (tt, tt)) $
    use1 𝓛 (‵ (room_at M (block_ptr b o))) (id⊢ 𝓤 _) $
    feq_i ! _ (vunit ∷ []) _ refl $ nothing ! $ nothing ! $ join ! $ nothing ! $ group ! 3 $ done !)))))))))
