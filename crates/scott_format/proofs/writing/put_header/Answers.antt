use Rattle.std.proofs.Common.{◌≡◌, ◌++◌, ◌∷◌, [], List, ℤ, ◌∙◌, ap, w32, to_z, of_z, rules}
use Rattle.std.specs.List.{flat_map}
use Rattle.std.proofs.lemmas.Result.{on_ok_weaker}
use Rattle.adv_text.specs.Writing.{number_text}
use Rattle.scott_types.specs.Database.{database_of}
use Rattle.scott_format.specs.Canon.{header_numbers, number_and_space}
use Rattle.scott_format.proofs.Texts.{numbers_written}
use Rattle.scott_format.proofs.writing.put_header.Goals as goal

pub returns : goal.returns
returns c =
    let db = database_of c.args.parts.now in
    let home : to_z w32 (of_z w32 c.args.parts.now.header.home) ≡ c.args.parts.now.header.home = search rules in
    on_ok_weaker c.put_number_and.result
    (λ written. numbers_written c.args.out.now.items c.put_numbers.new.out.items c.put_number_and.new.out.items (header_numbers db) db.header.home
    (c.in_ok-put_numbers.ensures ∙ ap (λ (zs : List ℤ). c.args.out.now.items ++ flat_map number_and_space zs) c.header_numbers.ensures)
    (written ∙ ap (λ (z : ℤ). c.put_numbers.new.out.items ++ (number_text z ++ 10 ∷ [])) home))
    c.put_number_and.ensures
