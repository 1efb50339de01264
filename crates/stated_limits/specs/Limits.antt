-- The limits of the profile in numbers, as the pages state them, each beside the constant that definitions and code share.
use Rattle.std.specs.Prelude.{◌≡◌, ℕ, ◌*◌}
use Rattle.osek_values.specs.declared.limits.TheConstants.{MAX_TASKS, MAX_ISRS, MAX_COUNTERS, MAX_ALARMS, MAX_EVENTS, MAX_RESOURCES, MAX_MODES, MAX_ACTIVATIONS, MAX_LINE}
use Rattle.osek_values.specs.declared.limits.TheConstants.{MAX_SOURCE_BLOCKS, MAX_BLOCKS, MAX_LOCKS, MAX_OIL_DEPTH, MAX_CODE_DEPTH}
use Rattle.osek_values.specs.declared.limits.TheConstants.{MAX_NAME, MAX_EVENT_LINE, LINE_MAX, MAX_FILE, MAX_EVENT_TEXT, MAX_TABLE, MAX_RECORD}
use Rattle.osek_io.specs.declared.put_buffer.TheConstants.{PUT_ROOM}
use Rattle.trace_text.specs.declared.feed.TheConstants.{FEED_ROOM}

-- What an application has at most.
pub record AreApplicationLimits : Type 0 where
  pub tasks : MAX_TASKS ≡ 16
  -- of category 2
  pub isrs : MAX_ISRS ≡ 8
  pub counters : MAX_COUNTERS ≡ 8
  pub alarms : MAX_ALARMS ≡ 16
  pub events : MAX_EVENTS ≡ 32
  -- RES_SCHEDULER and the INTERNAL ones among them
  pub resources : MAX_RESOURCES ≡ 8
  -- OSDEFAULTAPPMODE among them
  pub modes : MAX_MODES ≡ 8
  -- ACTIVATION of a task, and of all tasks together, which is how many places the line of those that are to run has
  pub activations : MAX_ACTIVATIONS ≡ 255
  pub places : MAX_LINE ≡ 4080

-- What task code and OIL have at most.
pub record AreCodeLimits : Type 0 where
  -- statements and closing braces of bodies; with the blocks of tick routines, 2 for each counter and 1 for each alarm
  pub source_blocks : MAX_SOURCE_BLOCKS ≡ 1024
  pub blocks : MAX_BLOCKS ≡ 1056
  -- interrupt locks that are open
  pub locks : MAX_LOCKS ≡ 8
  -- braces that are open
  pub oil_depth : MAX_OIL_DEPTH ≡ 16
  pub code_depth : MAX_CODE_DEPTH ≡ 32

abbrev pub mebibyte : ℕ
mebibyte = 1048576

-- How many bytes there are at most.
pub record AreByteLimits : Type 0 where
  pub name : MAX_NAME ≡ 64
  -- a line of an event text, without its LF
  pub event_line : MAX_EVENT_LINE ≡ 256
  -- a line of the trace, with its LF
  pub trace_line : LINE_MAX ≡ 20480
  -- an OIL text, a task code text, an image
  pub file : MAX_FILE ≡ 1 * mebibyte
  pub event_text : MAX_EVENT_TEXT ≡ 16 * mebibyte
  pub table : MAX_TABLE ≡ 16 * mebibyte
  -- of points
  pub record_of : MAX_RECORD ≡ 16 * mebibyte

-- How many bytes the buffers have.
pub record AreBufferSizes : Type 0 where
  -- in which lines of the trace are held back
  pub trace : PUT_ROOM ≡ 65536
  -- in which an event text is cut into lines
  pub events : FEED_ROOM ≡ 73728
