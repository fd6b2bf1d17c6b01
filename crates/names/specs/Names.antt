-- What columns are called and what their cells are, and the words of refusals and faults.
-- Assumes nothing.
use Rattle.std.specs.Prelude.{ℕ, cond, List, [], ◌∷◌, ltb, length, get_or, replicate}
use Prim.Native.String.{String}
use Rattle.layout.specs.Columns.{col, columns_of}
use Rattle.layout.specs.declared.columns.Family.{Family}
use Rattle.layout.specs.declared.columns.Family.TheVariants.{Pre, Post, FrameStart, Item, FrameEnd, FodPlatform, DreamlandWhispy, StadiumTransformation}
use Rattle.names.specs.Bytes.{bytes, filled}
use Rattle.names.specs.declared.columns.Described.{Described}
use Rattle.names.specs.declared.refusals.Words.{Words}

-- a column's kind, by the letters u, i and f, and its name
pub record Naming : Type 0 where
  pub kind : ℕ
  pub name : String

abbrev pub unsigned_cells : String → Naming
unsigned_cells name = record { kind = 0x75; name = name }

abbrev pub signed_cells : String → Naming
signed_cells name = record { kind = 0x69; name = name }

abbrev pub float_cells : String → Naming
float_cells name = record { kind = 0x66; name = name }

-- the columns of a family, in the order of its record
unfoldable pub called_in : Family → List Naming
called_in Pre =
    unsigned_cells "random_seed" ∷
    unsigned_cells "state" ∷
    float_cells "position_x" ∷
    float_cells "position_y" ∷
    float_cells "direction" ∷
    float_cells "joystick_x" ∷
    float_cells "joystick_y" ∷
    float_cells "cstick_x" ∷
    float_cells "cstick_y" ∷
    float_cells "triggers" ∷
    unsigned_cells "buttons" ∷
    unsigned_cells "buttons_physical" ∷
    float_cells "triggers_physical_l" ∷
    float_cells "triggers_physical_r" ∷
    signed_cells "raw_analog_x" ∷
    float_cells "percent" ∷
    signed_cells "raw_analog_y" ∷
    signed_cells "raw_analog_cstick_x" ∷
    signed_cells "raw_analog_cstick_y" ∷
    []
called_in Post =
    unsigned_cells "character" ∷
    unsigned_cells "state" ∷
    float_cells "position_x" ∷
    float_cells "position_y" ∷
    float_cells "direction" ∷
    float_cells "percent" ∷
    float_cells "shield" ∷
    unsigned_cells "last_attack_landed" ∷
    unsigned_cells "combo_count" ∷
    unsigned_cells "last_hit_by" ∷
    unsigned_cells "stocks" ∷
    float_cells "state_age" ∷
    unsigned_cells "state_flags_0" ∷
    unsigned_cells "state_flags_1" ∷
    unsigned_cells "state_flags_2" ∷
    unsigned_cells "state_flags_3" ∷
    unsigned_cells "state_flags_4" ∷
    float_cells "misc_as" ∷
    unsigned_cells "airborne" ∷
    unsigned_cells "ground" ∷
    unsigned_cells "jumps" ∷
    unsigned_cells "l_cancel" ∷
    unsigned_cells "hurtbox_state" ∷
    float_cells "velocities_self_x_air" ∷
    float_cells "velocities_self_y" ∷
    float_cells "velocities_knockback_x" ∷
    float_cells "velocities_knockback_y" ∷
    float_cells "velocities_self_x_ground" ∷
    float_cells "hitlag" ∷
    unsigned_cells "animation_index" ∷
    unsigned_cells "last_hit_by_instance" ∷
    unsigned_cells "instance_id" ∷
    []
called_in FrameStart =
    unsigned_cells "random_seed" ∷
    unsigned_cells "scene_frame_counter" ∷
    []
called_in Item =
    unsigned_cells "type" ∷
    unsigned_cells "state" ∷
    float_cells "direction" ∷
    float_cells "velocity_x" ∷
    float_cells "velocity_y" ∷
    float_cells "position_x" ∷
    float_cells "position_y" ∷
    unsigned_cells "damage" ∷
    float_cells "timer" ∷
    unsigned_cells "id" ∷
    unsigned_cells "misc_0" ∷
    unsigned_cells "misc_1" ∷
    unsigned_cells "misc_2" ∷
    unsigned_cells "misc_3" ∷
    signed_cells "owner" ∷
    unsigned_cells "instance_id" ∷
    []
called_in FrameEnd =
    signed_cells "latest_finalized_frame" ∷
    []
called_in FodPlatform =
    unsigned_cells "platform" ∷
    float_cells "height" ∷
    []
called_in DreamlandWhispy =
    unsigned_cells "direction" ∷
    []
called_in StadiumTransformation =
    unsigned_cells "event" ∷
    unsigned_cells "type" ∷
    []

-- no column: 13
abbrev pub no_column : Described
no_column = record { refused = 13; width = 0; kind = 0; major = 0; minor = 0; name = replicate 32 0 }

-- column n of a family: its kind and name beside its width and first version
unfoldable pub described : Family → ℕ → Described
described f n =
    let c = get_or (columns_of f) n (col 0 0 0) in
    let called = get_or (called_in f) n (unsigned_cells "") in
    cond (ltb n (length (columns_of f)))
    (record { refused = 0; width = c.width; kind = called.kind; major = c.major; minor = c.minor; name = filled 32 (bytes called.name) })
    no_column

-- why a call was refused, by its number; 18 is the program's, not the library's
unfoldable pub refusal_words : List String
refusal_words =
    "accepted" ∷
    "the version is above 3.18.0" ∷
    "a count exceeds its maximum" ∷
    "a cell store's length is not columns times rows" ∷
    "a cell exceeds its column's width" ∷
    "offsets do not lead through the rows, or the version has no such rows" ∷
    "presence bits do not match the frames" ∷
    "there are over four ports or eight slots, a port above 3, or a port twice" ∷
    "the start block is too short for the version, or over 65,535 bytes" ∷
    "a start field is missing, a player type or text is out of its limits, or a text has a zero inside" ∷
    "cheat codes before 3.3, or not padded to blocks of 512 bytes" ∷
    "a double end without an end, or an initiator who is no player" ∷
    "the output is too short" ∷
    "a frame id, frame, row or column is out of range" ∷
    "not a replay: under 15 bytes, or a wrong signature" ∷
    "the table of payload sizes is absent, not whole, or damaged" ∷
    "an event whose code is not in the table of payload sizes" ∷
    "an event that runs past the end of the event data" ∷
    "the input is over 65,536 bytes" ∷
    "not a replay that can be read into columns" ∷
    "a map more than 8 deep in the metadata" ∷
    "a key or text of over 255 bytes in the metadata" ∷
    "a key twice in one map of the metadata" ∷
    "metadata that is no map of texts, numbers and maps" ∷
    "a replay without an index: below 2.2, its first event no GameStart, or a FrameStart without an id" ∷
    "not an index: its mark, version or length is wrong" ∷
    "the index of another replay" ∷
    "no frame has this id" ∷
    []

abbrev pub words_of : ℕ → String
words_of number = get_or refusal_words number "for a reason that is not known here"

abbrev pub worded : ℕ → Words
worded number = record { text = filled 128 (bytes (words_of number)) }

-- why a file is refused with 19, by the reason's number
unfoldable pub fault_words : List String
fault_words =
    "no fault" ∷
    "an event out of order" ∷
    "an event of another size than its version's" ∷
    "an event with another frame's id" ∷
    "a frame's ports do not ascend" ∷
    "a player's Pre without its Post" ∷
    "a player twice in one frame" ∷
    "a port above 3" ∷
    "a follower flag above 1" ∷
    "a seat type above 3" ∷
    "an initiator who is no player" ∷
    "a wrong block of cheat codes" ∷
    "a third end" ∷
    "a second end unlike the first" ∷
    "the replay is not finished" ∷
    "the length field was never filled in, or says more bytes than there are" ∷
    "the first event is no GameStart of at least 4 bytes" ∷
    "the start block is too short for its version" ∷
    "an event that its version does not have" ∷
    "cheat codes are not as the table of payload sizes lists them" ∷
    "a frame with the id of the one before it" ∷
    "a player's Post without its Pre" ∷
    "an event that no replay has" ∷
    []

abbrev pub fault_words_of : ℕ → String
fault_words_of number = get_or fault_words number "for a reason that is not known here"

abbrev pub fault_worded : ℕ → Words
fault_worded number = record { text = filled 128 (bytes (fault_words_of number)) }
