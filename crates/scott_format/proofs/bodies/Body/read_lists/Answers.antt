use Rattle.std.proofs.Common.{Err}
use Rattle.std.proofs.lemmas.Result.{err_from_is_err_and}
use Rattle.scott_format.proofs.ListSteps.{moves_then}
use Rattle.scott_format.proofs.bodies.Body.read_lists.Goals as goal

pub returns-in_err-read_actions-clause-advances : goal.returns-in_err-read_actions-clause-advances
returns-in_err-read_actions-clause-advances c =
    let p = err_from_is_err_and c.from_residual.result c.from_residual.ensures.1 in
    rw (p.1, p.2) c.in_err-read_actions.ensures.advances

pub returns-in_err-read_words-clause-advances : goal.returns-in_err-read_words-clause-advances
returns-in_err-read_words-clause-advances c =
    let p = err_from_is_err_and c.from_residual-in_err-read_words.result c.from_residual-in_err-read_words.ensures.1 in
    rw (p.1, p.2) (moves_then {T = Unit {0}} _ _ _ _ _ _ (Err c.in_err-read_words.field-0.0) c.in_ok-read_actions.ensures.advances c.in_err-read_words.ensures.advances)

pub returns-in_err-read_rooms-clause-advances : goal.returns-in_err-read_rooms-clause-advances
returns-in_err-read_rooms-clause-advances c =
    let p = err_from_is_err_and c.from_residual-in_err-read_rooms.result c.from_residual-in_err-read_rooms.ensures.1 in
    rw (p.1, p.2) (moves_then {T = Unit {0}} _ _ _ _ _ _ (Err c.in_err-read_rooms.field-0.0) c.in_ok-read_actions.ensures.advances (moves_then {T = Unit {0}} _ _ _ _ _ _ (Err c.in_err-read_rooms.field-0.0) c.in_ok-read_words.ensures.advances c.in_err-read_rooms.ensures.advances))

pub returns-in_err-read_messages-clause-advances : goal.returns-in_err-read_messages-clause-advances
returns-in_err-read_messages-clause-advances c =
    let p = err_from_is_err_and c.from_residual-in_err-read_messages.result c.from_residual-in_err-read_messages.ensures.1 in
    rw (p.1, p.2) (moves_then {T = Unit {0}} _ _ _ _ _ _ (Err c.in_err-read_messages.field-0.0) c.in_ok-read_actions.ensures.advances (moves_then {T = Unit {0}} _ _ _ _ _ _ (Err c.in_err-read_messages.field-0.0) c.in_ok-read_words.ensures.advances (moves_then {T = Unit {0}} _ _ _ _ _ _ (Err c.in_err-read_messages.field-0.0) c.in_ok-read_rooms.ensures.advances c.in_err-read_messages.ensures.advances)))

pub returns-in_err-read_items-clause-advances : goal.returns-in_err-read_items-clause-advances
returns-in_err-read_items-clause-advances c =
    let p = err_from_is_err_and c.from_residual-in_err-read_items.result c.from_residual-in_err-read_items.ensures.1 in
    rw (p.1, p.2) (moves_then {T = Unit {0}} _ _ _ _ _ _ (Err c.in_err-read_items.field-0.0) c.in_ok-read_actions.ensures.advances (moves_then {T = Unit {0}} _ _ _ _ _ _ (Err c.in_err-read_items.field-0.0) c.in_ok-read_words.ensures.advances (moves_then {T = Unit {0}} _ _ _ _ _ _ (Err c.in_err-read_items.field-0.0) c.in_ok-read_rooms.ensures.advances (moves_then {T = Unit {0}} _ _ _ _ _ _ (Err c.in_err-read_items.field-0.0) c.in_ok-read_messages.ensures.advances c.in_err-read_items.ensures.advances))))

pub returns-clause-advances : goal.returns-clause-advances
returns-clause-advances c = (moves_then {T = Unit {0}} _ _ _ _ _ _ c.read_comments.result c.in_ok-read_actions.ensures.advances (moves_then {T = Unit {0}} _ _ _ _ _ _ c.read_comments.result c.in_ok-read_words.ensures.advances (moves_then {T = Unit {0}} _ _ _ _ _ _ c.read_comments.result c.in_ok-read_rooms.ensures.advances (moves_then {T = Unit {0}} _ _ _ _ _ _ c.read_comments.result c.in_ok-read_messages.ensures.advances (moves_then {T = Unit {0}} _ _ _ _ _ _ c.read_comments.result c.in_ok-read_items.ensures.advances c.read_comments.ensures.advances)))))
