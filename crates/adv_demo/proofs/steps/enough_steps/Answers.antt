use Rattle.std.proofs.Common.{◌+◌, ◌*◌, ◌≤◌, arith}
use Rattle.std.proofs.lemmas.Nat.{mul-le}
use Rattle.adv_demo.proofs.steps.enough_steps.Goals as goal

pub overflow_mul-result-3 : goal.overflow_mul-result-3
overflow_mul-result-3 c =
    let rounds = (c.args.lines + 1) * 1000 * (c.highest-actions.result + 2) in
    let actions : c.highest-actions.result + 2 ≤ 5001 = omega arith in
    let items : c.highest-items.result + 2 ≤ 256 = omega arith in
    let few : rounds ≤ 500001000 * 5001 =
    mul-le ((c.args.lines + 1) * 1000) (c.highest-actions.result + 2) 500001000 5001
    (omega arith) actions in
    let most = mul-le rounds (c.highest-items.result + 2) (500001000 * 5001) 256 few items in
    omega arith

pub overflow_mul-result-4 : goal.overflow_mul-result-4
overflow_mul-result-4 c =
    let rounds = (c.args.lines + 1) * 1000 * (c.highest-actions.result + 2) in
    let actions : c.highest-actions.result + 2 ≤ 5001 = omega arith in
    let items : c.highest-items.result + 2 ≤ 256 = omega arith in
    let few : rounds ≤ 500001000 * 5001 =
    mul-le ((c.args.lines + 1) * 1000) (c.highest-actions.result + 2) 500001000 5001
    (omega arith) actions in
    let most = mul-le rounds (c.highest-items.result + 2) (500001000 * 5001) 256 few items in
    let all = mul-le (rounds * (c.highest-items.result + 2)) c.share.result
    (500001000 * 5001 * 256) 22686 most c.share.ensures.few in
    omega arith
