-- An event of the program as the model sees it: with the bytes themselves, not borrowed ones.
use Rattle.std.specs.Prelude.{◌≡◌, ℕ, true, None, Some, option_map}
use Rattle.coap_core.specs.declared.event.Event.{Event}
use Rattle.coap_core.specs.declared.event.Event.TheVariants.{Datagram, Tick}
use Rattle.coap_forward.specs.Messages.{is_empty}
use Rattle.coap_message.specs.Message.{Message}
use Rattle.coap_model.specs.Events as model
use Rattle.coap_model.specs.Step.{message_in}

abbrev pub seen : Event → model.Event
seen (Datagram source bytes) = model.arrival source bytes.now
seen Tick = model.tick

-- a datagram that holds no message of at most this many bytes: it is too long, or encodes none
abbrev pub IsUnread : ℕ → model.Event → Type 0
IsUnread most (model.arrival source bytes) = message_in most bytes ≡ None
IsUnread most model.tick = ⊥

-- a datagram that holds an Empty message of at most this many bytes, as an acknowledgement without a
-- response and a Reset are (RFC 7252, 4.1 and 4.2)
abbrev pub HoldsEmpty : ℕ → model.Event → Type 0
HoldsEmpty most (model.arrival source bytes) =
    option_map (λ (m : Message). is_empty m.code) (message_in most bytes) ≡ Some true
HoldsEmpty most model.tick = ⊥
