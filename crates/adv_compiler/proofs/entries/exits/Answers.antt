use Rattle.std.proofs.Common.{◌≡◌, ◌∙◌, ◌≤◌, ◌<◌, sym, length, arith, rules, w32, to_z, of_z}
use Rattle.std.proofs.lemmas.List.{length-set}
use Rattle.adv_compiler.specs.Index.{known_in}
use Rattle.adv_compiler.proofs.Exits.{exits_further, exits_end}
use Rattle.adv_compiler.proofs.entries.exits.Goals as goal

pub loop-k-preserved : goal.loop-k-preserved
loop-k-preserved c =
    let same : to_z w32 (of_z w32 c.in_ok-ways.field-0) ≡ c.in_ok-ways.field-0 = search rules in
    let there : c.loop-k.k < length c.args.refs.now = omega arith in
    let room : c.loop-k.k < length c.loop-k.ways = omega (arith, c.loop-k.invariant.six) in
    rw same (record {
      six = length-set c.loop-k.ways c.loop-k.k c.in_ok-ways.field-0 ∙ c.loop-k.invariant.six;
      meant =
          exits_further (known_in c.args.tables.now) c.loop-k.ways c.args.refs.now c.loop-k.k c.index-refs-k.result c.in_ok-ways.field-0 _
          there room c.in_ok-ways.ensures c.loop-k.invariant.meant;
    })

pub returns : goal.returns
returns c =
    let past : length c.args.refs.now ≤ c.loop-k.k = omega arith in
    let full : length c.loop-k.ways ≤ c.loop-k.k = omega (arith, c.loop-k.invariant.six) in
    exits_end (known_in c.args.tables.now) c.loop-k.ways c.args.refs.now c.loop-k.k _ past full c.loop-k.invariant.meant
